-- The plain engine says yes exactly when the main engine takes all tokens and is finished.
use mathlib.Core.Path.{◌≡◌, refl, sym, ap, subst, ◌∙◌}
use mathlib.Core.Bool.{Bool, true}
use mathlib.Core.Logic.{◌↔◌}
use mathlib.Core.List.{List, [], ◌∷◌, ◌++◌, append_assoc}
use Prim.Native.Nat.{ℕ, suc, ◌+◌, ◌-◌, ◌≤◌, ◌<◌}
use native.Mathlib.Decide.{dec_lt}
use native.Mathlib.Omega.{arith}
use lib.ListN.{length, get_or, take, drop, length-append, take-append-drop, get_or-append}
use lib.Seq.{take-length, take-suc, get_or-append-add}
use Rattle.laws.proofs.Decides.{true_false}
use Rattle.grammar.specs.Rules.{Grammar}
use Rattle.grammar.specs.Sentences.{Derives, Sentence, Begins}
use Rattle.grammar.specs.File.{grammar_of}
use Rattle.parse.specs.declared.State.{State}
use Rattle.parse.specs.Words.{Words}
use Rattle.earley.specs.Positions.{Positions, plain}
use Rattle.earley.proofs.Spelling.{plain-behind, plain-taken}
use Rattle.demands.specs.Steps.{Ended}
use Rattle.demands.specs.Calls.{FileFault, CallFault}
use Rattle.demands.specs.Histories.{History}
use Rattle.demands.specs.Sentences.{AcceptedOrNoRoom, FinishedJudged}
use Rattle.demands.specs.Tokens.{TokenJudged, TokensJudged, TokensFinished}
use Rattle.demands.proofs.Lasting.{lasts, no_fault}
use Rattle.demands.proofs.Telling.{run-tells, finished-tells}
use Rattle.demands.proofs.Tokens.{judged_run, judged_finished}
use Rattle.plain.specs.Calls.{Ordinary, Settles, Tables, Tells}
use Rattle.agreement.specs.Compared.{Read, Plain}

-- Every token of a derived string is an ordinary one.
pub derives-ordinary : {g : Grammar} {x : ℕ} {w : List ℕ} → Derives g x w → Ordinary g.tokens w
derives-ordinary {g} (Derives.token {t = t} l) = record { below = λ i m. one i m }
  where
    one : (i : ℕ) → i < 1 → get_or (t ∷ []) i 0 < g.tokens
    one i m = let e : i ≡ 0 = omega arith in subst (λ (j : ℕ). get_or (t ∷ []) j 0 < g.tokens) (sym e) l
derives-ordinary (Derives.unary s d) = derives-ordinary d
derives-ordinary {g} (Derives.binary {u = u} {v = v} s n d e) = joined (derives-ordinary d) (derives-ordinary e)
  where
    joined : Ordinary g.tokens u → Ordinary g.tokens v → Ordinary g.tokens (u ++ v)
    joined a b = record {
      below = λ i l. elim (dec_lt i (length u)) [
        | yes m ↦ subst (λ (t : ℕ). t < g.tokens) (sym (get_or-append u v 0 i m)) (a.below i m)
        | no m ↦ behind i l (omega arith)
      ];
    }
      where
        behind : (i : ℕ) → i < length (u ++ v) → length u ≤ i → get_or (u ++ v) i 0 < g.tokens
        behind i l m =
            let k : ℕ = i - length u in
            let e : length u + k ≡ i = omega arith in
            subst (λ (t : ℕ). t < g.tokens) (sym (get_or-append-add u v k 0) ∙ ap (λ (j : ℕ). get_or (u ++ v) j 0) e) (b.below k (omega (arith, length-append u v)))

-- The plain engine says yes exactly on sentences, also where it refuses a token.
pub plain-sentence : {file ts : List ℕ} {s : State} {w : Words} {a : Positions} {says : Bool} → History file s w a → Plain file ts says → (says ≡ true) ↔ Sentence (grammar_of file) ts
plain-sentence {file} {ts} {says = says} h p = by_answer p.tables p.tells p.words_enough p.few_enough
  where
    refuted : {number : ℕ} → 0 < number → (Sentence (grammar_of file) ts → ⊥) → Tells (grammar_of file) ts number says → (says ≡ true) ↔ Sentence (grammar_of file) ts
    refuted {number} some not_so tells = (
      (λ so. absurd (true_false (sym so ∙ tells.refused (λ (e : number ≡ 0). omega arith)))),
      (λ d. absurd (not_so d)),
    )

    by_grammar : {before left : List ℕ} {number count : ℕ} → Settles (grammar_of file) ts before number count left → Tells (grammar_of file) ts number says
        → (number ≡ 13 → ⊥) → (number ≡ 22 → ⊥) → (says ≡ true) ↔ Sentence (grammar_of file) ts
    by_grammar (Settles.no_token_lem a) tells words few = refuted (omega arith) (λ d. a (derives-ordinary d)) tells
    by_grammar (Settles.too_many o f) tells words few = absurd (few refl)
    by_grammar (Settles.short o f r) tells words few = absurd (words refl)
    by_grammar (Settles.done o f r t) tells words few = tells.sentence refl

    by_answer : {before left : List ℕ} {number count : ℕ} → Tables file ts before number count left → Tells (grammar_of file) ts number says
        → (number ≡ 13 → ⊥) → (number ≡ 22 → ⊥) → (says ≡ true) ↔ Sentence (grammar_of file) ts
    by_answer (Tables.malformed m) tells words few = absurd (no_fault (lasts h) (CallFault.file_fault (FileFault.malformed m)))
    by_answer (Tables.broken m b) tells words few = absurd (no_fault (lasts h) (CallFault.file_fault (FileFault.broken m b)))
    by_answer (Tables.accepted m a settles) tells words few = by_grammar settles tells words few

module _ {file : List ℕ} {s : State} {w : Words} {ts us : List ℕ} {ended : Ended} {finished : Bool} (main : Read file s w ts us ended finished) where
  judged : TokensJudged (grammar_of file) ts us ended.outcome.number ended.taken
  judged = (judged_run ts us).0 ((run-tells main.runs).sentences (plain ts) main.history)

  -- Behind the run, finished is told of the tokens that were taken.
  after : TokensFinished (grammar_of file) (ts ++ take ended.taken us) main.report finished
  after =
      let read : plain ts ++ take ended.taken (plain us) ≡ plain (ts ++ take ended.taken us) =
      ap (λ (b : Positions). plain ts ++ b) (plain-taken ended.taken us) ∙ plain-behind ts (take ended.taken us) in
      (judged_finished (ts ++ take ended.taken us)).0
      (subst (λ (a : Positions). FinishedJudged (grammar_of file) a main.report finished) read
      ((finished-tells main.finishes).sentences (plain ts ++ take ended.taken (plain us)) (History.run main.history main.runs)))

  all-taken : ended.taken ≡ length us → ts ++ take ended.taken us ≡ ts ++ us
  all-taken e = ap (λ (k : ℕ). ts ++ take k us) e ∙ ap (λ (l : List ℕ). ts ++ l) (take-length us)

  -- No token of a sentence is refused but for want of room.
  taken-all : Sentence (grammar_of file) (ts ++ us) → ended.taken ≡ length us
  taken-all d = elim (dec_lt ended.taken (length us)) [
    | no m ↦ omega (arith, judged.few)
    | yes less ↦ absurd (refused less)
  ]
    where
      refused : ended.taken < length us → ⊥
      refused less = by_number (judge.otherwise (λ six. judge.impossible.0 six begins)) refl
        where
          t : ℕ
          t = get_or us ended.taken 0

          ordinary : t < (grammar_of file).tokens
          ordinary = subst (λ (x : ℕ). x < (grammar_of file).tokens) (get_or-append-add ts us ended.taken 0)
              ((derives-ordinary d).below (length ts + ended.taken) (omega (arith, length-append ts us)))

          judge : TokenJudged (grammar_of file) (ts ++ take ended.taken us) t ended.outcome.number
          judge = judged.at_refusal less ordinary

          front : (ts ++ take ended.taken us) ++ (t ∷ []) ≡ ts ++ take (suc ended.taken) us
          front = append_assoc ts (take ended.taken us) (t ∷ []) ∙ ap (λ (l : List ℕ). ts ++ l) (sym (take-suc us ended.taken 0 less))

          begins : Begins (grammar_of file) ((ts ++ take ended.taken us) ++ (t ∷ []))
          begins = record {
            rest = drop (suc ended.taken) us;
            sentence = subst (Sentence (grammar_of file))
                (sym (ap (λ (l : List ℕ). l ++ drop (suc ended.taken) us) front ∙ append_assoc ts (take (suc ended.taken) us) (drop (suc ended.taken) us)
                ∙ ap (λ (l : List ℕ). ts ++ l) (take-append-drop (suc ended.taken) us))) d;
          }

          by_number : {number : ℕ} → AcceptedOrNoRoom number → ended.outcome.number ≡ number → ⊥
          by_number AcceptedOrNoRoom.accepted e = let whole : ended.taken ≡ length us = judged.whole.1 e in omega arith
          by_number AcceptedOrNoRoom.no_item e = main.items e
          by_number AcceptedOrNoRoom.no_entry_lem e = main.queue e
          by_number AcceptedOrNoRoom.no_set e = main.sets e
          by_number AcceptedOrNoRoom.no_unit e = main.units e

  -- THE TWO ENGINES AGREE: over any buffers and any history, of any run that no room refusal met.
  pub engines_agree : {says : Bool} → Plain file (ts ++ us) says → (says ≡ true) ↔ ((ended.taken ≡ length us) × (finished ≡ true))
  engines_agree {says} plain = (
    (λ so. let d : Sentence (grammar_of file) (ts ++ us) = (plain-sentence main.history plain).0 so in
        (taken-all d, after.sentence.1 (subst (Sentence (grammar_of file)) (sym (all-taken (taken-all d))) d))),
    (λ (both : (ended.taken ≡ length us) × (finished ≡ true)).
        (plain-sentence main.history plain).1 (subst (Sentence (grammar_of file)) (all-taken both.0) (after.sentence.0 both.1))),
  )
