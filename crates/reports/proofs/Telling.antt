-- From what is put into a place to what a report tells.
use mathlib.Core.Path.{◌≡◌, refl, sym, ap, subst, ◌∙◌}
use mathlib.Core.Bool.{true}
use mathlib.Core.Logic.{◌↔◌, inl, inr}
use mathlib.Core.List.Memᴰ.{eq_of_singleton as only}
use mathlib.Core.List.Memᴰ.{head as here}
use mathlib.Core.List.{List, [], ◌∷◌, ◌++◌}
use Prim.Native.Nat.{ℕ, ◌-◌, ◌<◌}
use native.Mathlib.Omega.{arith}
use lib.ListN.{length, get_or, take, drop}
use lib.Seq.{take_at}
use borrow.Author.Tests.{eqb-true, eq-eqb}
use Rattle.laws.specs.Bits.{bit_at, Holds, holds, row_of}
use Rattle.laws.specs.Records.{flat}
use Rattle.laws.specs.Fills.{Fills}
use Rattle.laws.proofs.Fills.{SameFill, fills_agree}
use Rattle.bits.specs.Width.{row_words}
use Rattle.item.specs.Item.{Item}
use Rattle.grammar.specs.Rules.{Rule, Grammar}
use Rattle.parse.specs.declared.State.{State}
use Rattle.parse.specs.Words.{Words, set_room, within}
use Rattle.advance.specs.NewItems.{items_from}
use Rattle.earley.specs.Positions.{Positions, SpellBeginning}
use Rattle.demands.specs.Calls.{CallFault, Formed, Ready, Takes}
use Rattle.demands.specs.Positions.{is_position}
use Rattle.demands.specs.Steps.{Outcome, not_predicted, stepped}
use Rattle.demands.specs.Histories.{History}
use Rattle.demands.proofs.Cut.{within-cut}
use Rattle.demands.proofs.Positions.{Predicted, one_position}
use Rattle.demands.proofs.Refusing.{answered_six, step_answered}
use Rattle.recognizer.proofs.Carving.{some-set}
use Rattle.laws.proofs.Tests.{either_way}
use Rattle.laws.proofs.Decides.{true_false}
use Rattle.demands.proofs.Agree.{checked_grammar, call_number, not_formed}
use Rattle.demands.proofs.Lasting.{lasts, lasts_holding, no_fault}
use Rattle.earley.proofs.Plain.{one_kind}
use Rattle.earley.proofs.Answers.{row_any}
use Rattle.std.specs.Prelude.{Result}
use Rattle.reports.specs.declared.Unfilled.{Unfilled}
use Rattle.reports.specs.Answers.{filled_number, filled_count}
use Rattle.reports.specs.Lists.{expected_tokens, latest_items, Reported, Lists}
use Rattle.reports.specs.Sentences.{In, GoesOn, ExpectedTells}
use Rattle.reports.specs.inner.Puts.{Puts}
use Rattle.reports.proofs.Latest.{items-same}
use Rattle.reports.proofs.Held.{listed-held, held-listed}

-- What was put is what is told.
pub puts_list : {file : List ℕ} {s : State} {w : Words} {g : Grammar} {list : Grammar → State → Words → List ℕ} {l place out : List ℕ} {r : Result ℕ Unfilled} → Formed file s w g
    → l ≡ list g s (within w) → Puts l place r out → Lists file s w list place (filled_number r) (filled_count r) out
puts_list {file} {s} {w} {list = list} formed is (Puts.short long) = Fills.short (subst (Reported file s w list) (sym is) (Reported.formed formed)) long
puts_list {file} {s} {w} {list = list} formed is (Puts.wrote fits) = Fills.done (subst (Reported file s w list) (sym is) (Reported.formed formed)) fits

-- So are the latest items, put in whatever words.
pub puts_items : {file : List ℕ} {s : State} {w : Words} {g : Grammar} {from : ℕ} {place out : List ℕ} {r : Result ℕ Unfilled} (words : List Rule → Item → List ℕ) → Formed file s w g
    → from ≡ get_or w.starts s.set 0 → Puts (flat (words g.rules) (items_from w.items from (s.items - from))) place r out
    → Lists file s w (λ h t v. flat (words h.rules) (latest_items t v)) place (filled_number r) (filled_count r) out
puts_items {s = s} {w} {g} {from} words formed is puts =
    puts_list formed (ap (flat (words g.rules)) (items-same g.symbols g.rules s w formed.well_formed from is)) puts

-- One list is told of a parse.
one_reported : {A : Type 0} {file : List ℕ} {s : State} {w : Words} {list : Grammar → State → Words → List A} (l k : List A) → Reported file s w list l → Reported file s w list k
    → l ≡ k
one_reported {s = s} {w} {list} l k (Reported.formed f) (Reported.formed g) = ap (λ (h : Grammar). list h s (within w)) (checked_grammar f.checked g.checked)

not_both : {A : Type 0} {file : List ℕ} {s : State} {w : Words} {list : Grammar → State → Words → List A} (n : ℕ) (l : List A) → CallFault file s w n → Reported file s w list l → ⊥
not_both n l fault (Reported.formed f) = not_formed f fault

-- TWO RESULTS THAT MEET A REPORT'S STATEMENT AGREE.
pub lists_agree : {A : Type 0} {file : List ℕ} {s : State} {w : Words} {list : Grammar → State → Words → List A} {place : List A} {n c : ℕ} {out : List A} {m d : ℕ} {other : List A}
    → Lists file s w list place n c out → Lists file s w list place m d other → SameFill n c out m d other
lists_agree a b = fills_agree (λ n m. call_number) one_reported not_both a b

-- A row holds a symbol, as a test and as a fact.
held_fact : (row : List ℕ) (t : ℕ) → holds row t ≡ true → Holds row t
held_fact row t e = record { is_set = eqb-true (bit_at row t) 1 e }

fact_held : (row : List ℕ) (t : ℕ) → Holds row t → holds row t ≡ true
fact_held row t h = eq-eqb (bit_at row t) 1 h.is_set

module _ {file : List ℕ} {s : State} {w : Words} where
  -- On every well-formed state, forged ones too, a token is listed exactly when it would not be refused with 6: under the grammar of a call, ..
  listed_under : {g : Grammar} {table : List (List ℕ)} {t : ℕ} → Ready file s w g table → t < g.tokens
      → In t (expected_tokens g s (within w)) ↔ ((stepped g table s (within w) (t ∷ [])).number ≡ not_predicted → ⊥)
  listed_under {g} {table} {t} ready small = (
    (λ (i : In t (expected_tokens g s (within w))) six. (answered.0 six).1 (record { kind = t; of = here refl; held = held_fact row t (listed-held row g.tokens i).1 })),
    (λ (not-six : (stepped g table s (within w) (t ∷ [])).number ≡ not_predicted → ⊥).
        either_way (holds row t)
        (λ e. held-listed row g.tokens small e)
        (λ e. absurd (not-six (answered.1 ((one_position g.tokens t).1 small, (λ p. true_false (sym (fact_held row t (subst (Holds row) (only p.of) p.held)) ∙ e))))))),
  )
    where
      row : List ℕ
      row = row_of row_words (within w).rows s.set

      some : 0 < set_room w
      some = omega (arith, some-set w ready.well_formed)

      answered : ((stepped g table s (within w) (t ∷ [])).number ≡ not_predicted) ↔ ((is_position g.tokens (t ∷ []) ≡ true) × (Predicted s (within w) (t ∷ []) → ⊥))
      answered = answered_six (step_answered ready.sound.checked.accepted ready.well_formed (within-cut w some) (t ∷ []) ready.sound.predicts)

  -- .. and so under any that the file gives.
  pub listed_not_six : {g : Grammar} {t : ℕ} {o : Outcome} → Formed file s w g → Takes file s w (t ∷ []) o → t < g.tokens
      → In t (expected_tokens g s (within w)) ↔ (o.number ≡ not_predicted → ⊥)
  listed_not_six formed (Takes.refused fault) small = absurd (not_formed formed fault)
  listed_not_six {t = t} formed (Takes.done {g = h} {table = table} ready) small =
      let same : h ≡ _ = checked_grammar ready.sound.checked formed.checked in
      subst (λ (k : Grammar). In t (expected_tokens k s (within w)) ↔ ((stepped h table s (within w) (t ∷ [])).number ≡ not_predicted → ⊥)) same
      (listed_under ready (subst (λ (k : Grammar). t < k.tokens) (sym same) small))

  -- Of a history, what the latest row holds is what goes on.
  goes_on : {g : Grammar} {a : Positions} → Formed file s w g → History file s w a → (t : ℕ) → In t (expected_tokens g s (within w)) ↔ GoesOn g a t
  goes_on {g} {a} formed h t = (
    (λ (i : In t (expected_tokens g s (within w))).
        let held : (t < g.tokens) × (holds row t ≡ true) = listed-held row g.tokens i in
        record { ordinary = held.0; begins = (viable held.0).0 (held_fact row t held.1) }),
    (λ (goes : GoesOn g a t). held-listed row g.tokens goes.ordinary (fact_held row t ((viable goes.ordinary).1 goes.begins))),
  )
    where
      row : List ℕ
      row = row_of row_words (within w).rows s.set

      viable : t < g.tokens → Holds row t ↔ SpellBeginning g (a ++ ((t ∷ []) ∷ []))
      viable small =
          let any = row_any formed.checked.accepted (lasts_holding (lasts h) formed.checked).holds (one_kind small) in (
            (λ held. any.1 (record { kind = t; of = here refl; held = held })),
            (λ b. let in_row = any.0 b in subst (Holds row) (only in_row.of) in_row.held),
          )

  -- WHAT COULD STAND NEXT, EXACTLY.
  pub expected_tells : {place : List ℕ} {n c : ℕ} {out : List ℕ} → Lists file s w expected_tokens place n c out → ExpectedTells file s w n (take c out)
  expected_tells (Fills.refused fault) =
      record { told = λ a h. absurd (no_fault (lasts h) fault); sentences = λ a h e t. absurd (no_fault (lasts h) fault) }
  expected_tells (Fills.short gives long) = record { told = λ a h. inr refl; sentences = λ a h e t. absurd (omega arith) }
  expected_tells {place} (Fills.done {l} (Reported.formed {g} formed) fits) = record {
    told = λ a h. inl refl;
    sentences = λ a h e t.
        subst (λ (k : Grammar). In t (take (length l) (l ++ drop (length l) place)) ↔ GoesOn k a t) (sym formed.checked.is)
        (subst (λ (m : List ℕ). In t m ↔ GoesOn g a t) (sym (take_at l (drop (length l) place) (length l) refl)) (goes_on formed h t));
  }

  pub expected_means : {place : List ℕ} {n c : ℕ} {out : List ℕ} → Lists file s w expected_tokens place n c out
      → Lists file s w expected_tokens place n c out × ExpectedTells file s w n (take c out)
  expected_means lists = (lists, expected_tells lists)
