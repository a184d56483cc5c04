-- What the pass of a position came to, in the words that it was lent, and what is made of them.
use mathlib.Core.Path.{◌≡◌, refl, sym, ap, ◌∙◌, subst}
use mathlib.Core.List.{List}
use mathlib.Core.Bool.{true}
use Prim.Native.Nat.{ℕ, ◌*◌}
use lib.ListN.{length, take}
use Rattle.item.specs.Item.{item_words}
use Rattle.grammar.specs.inner.Decoded.{rules_of, decoded}
use Rattle.grammar.specs.Rules.{Grammar, Rule}
use Rattle.parse.specs.declared.State.{State}
use Rattle.parse.specs.Words.{Words, words_of, padded, filled}
use Rattle.completion.specs.Pass.{Pass, Progress, pass_over}
use Rattle.advance.specs.inner.Advances.{lent, Advances}
use Rattle.std.specs.Prelude.{Option, Some, None, Result, Err, IfOk}
use Rattle.completion.specs.declared.pass.Full.{Full}
use Rattle.completion.specs.declared.pass.Full.TheVariants as full
use Rattle.completion.specs.Lent.{number, stopped_by, after}
use Rattle.completion.specs.declared.pass.Pass.{Pass as Lent}
use Rattle.completion.proofs.Stopping.{is_refusal}
use Rattle.recognizer.specs.declared.Refusal.{Refusal}
use Rattle.recognizer.specs.declared.step.Reached.{Reached}
use Rattle.recognizer.specs.Answers.{refusal_number, full_refusal}
use Rattle.advance.specs.inner.Ready.{Advanceable}
use Rattle.demands.specs.Positions.{is_position}
use Rattle.demands.specs.Steps.{Outcome, completed, stepped}
use Rattle.demands.proofs.Positions.{Predicted}
use Rattle.grammar.specs.declared.Grammar as held
use Rattle.recognizer.specs.inner.Steppable.{Steppable, CameTo}
use Rattle.recognizer.proofs.OnePosition.{queue_back, advance_asks, advance_refused, advance_done, pass-refused}

-- A refusal's number is that of what was full, and not 0.
pub stopped_some : {r : Result Reached Full} {f : Full} {n : ℕ} → n ≡ stopped_by r → r ≡ Err f → n ≡ 0 → ⊥
stopped_some {r} {f} told is zero = is_refusal f (sym (told ∙ ap stopped_by is) ∙ zero)

full-numbers : (f : Full) → refusal_number (full_refusal f) ≡ number f
full-numbers full.Items = refl
full-numbers full.Queue = refl
full-numbers full.Store = refl

pub full_number : {r : Result Reached Full} {f : Full} {n : ℕ} {why : Refusal} → n ≡ stopped_by r → r ≡ Err f → why ≡ full_refusal f → refusal_number why ≡ n
full_number {r} {f} told is same = ap refusal_number same ∙ full-numbers f ∙ sym (told ∙ ap stopped_by is)

-- What is known of a pass that was made, of what the words behind it hold.
pub came_to : (R : Result (Unit {0}) Full) (p : Lent) {r : Result Reached Full} {c : Pass} {i q u : List ℕ} → after R p ≡ c → stopped_by R ≡ stopped_by r
    → i ≡ p.items.now → q ≡ p.queue.now → u ≡ p.store.now → IfOk r (λ to. (to.items ≡ p.stored) × (to.used ≡ p.used)) → CameTo r i q u c
came_to R p {r} {c} {i} {q} {u} is stopped is_i is_q is_u reached = record {
  at = (after R p).at;
  is = (λ k. pass_over (after R p).at (is_i k) (is_q k) (is_u k)) ∙ is;
  stopped = stopped;
  reached = reached;
}

pub record Came (gr : held.Grammar) (table : List (List ℕ)) (s : State) (v : Words) (kinds : List ℕ) (at : Progress) (items queue units : List ℕ) : Type 0 where
  pub can : Steppable (decoded gr) table s v
  pub position : is_position gr.tokens kinds ≡ true
  pub there : Predicted s v kinds
  pub is : pass_over at items queue units ≡ completed (decoded gr) s v kinds
  pub queue-words : length queue ≡ length v.queue

module _ {gr : held.Grammar} {table : List (List ℕ)} {s : State} {v : Words} {kinds : List ℕ} {at : Progress} {items queue units : List ℕ}
    (came : Came gr table s v kinds at items queue units) where
  abbrev g : Grammar
  g = decoded gr

  abbrev rs : List Rule
  rs = rules_of gr.rules

  stops : at.stopped ≡ (completed g s v kinds).at.stopped
  stops = ap (λ (p : Pass). p.at.stopped) came.is

  module _ (stopped : at.stopped ≡ 0 → ⊥) where
    -- Refused and cleared it leaves everything as it was.
    pub came_refused : (number : ℕ) → number ≡ at.stopped → (i q u : List ℕ) → i ≡ padded (length items) (take (item_words * s.items) items)
        → q ≡ padded (length queue) (take 0 queue) → u ≡ filled (length units) (take s.used units)
        → record { number = number; state = s; words = words_of i v.starts v.rows q u } ≡ stepped g table s v kinds
    came_refused number told i q u cleared emptied unwritten =
        pass-refused gr table s v came.can kinds came.position came.there (λ e. stopped (stops ∙ e)) number i q queue u (told ∙ stops) came.queue-words
        (cleared ∙ ap (λ (p : Pass). padded (length p.items) (take (item_words * s.items) p.items)) came.is) emptied
        (unwritten ∙ ap (λ (p : Pass). filled (length p.units) (take s.used p.units)) came.is)

  module _ (on : at.stopped ≡ 0) where
    going : (completed g s v kinds).at.stopped ≡ 0
    going = sym stops ∙ on

    -- The state with the units that a pass used, and the words that it left.
    abbrev reached : Pass → State
    reached p = record { set = s.set; items = s.items; used = p.at.used }

    abbrev pass : Pass
    pass = pass_over at items queue units

    -- The advance can be made, ..
    pub came_asks : Advanceable gr.rules.words gr.rules.count table (reached pass) (lent items v.starts v.rows) at.items
    came_asks =
        subst (λ (p : Pass). Advanceable gr.rules.words gr.rules.count table (reached p) (lent p.items v.starts v.rows) p.at.items) (sym came.is)
        (advance_asks gr table s v came.can kinds came.position going)

    -- .. from an empty queue.
    emptied : queue ≡ v.queue
    emptied = queue_back gr table s v came.can kinds came.position going queue came.queue-words (ap (λ (p : Pass). p.queue) came.is)

    module _ {r : Option State} {i st ro : List ℕ} (advances : Advances rs table (reached pass) (lent items v.starts v.rows) at.items r (lent i st ro)) where
      advances_so : Advances rs table (reached (completed g s v kinds)) (lent (completed g s v kinds).items v.starts v.rows) (completed g s v kinds).at.items r (lent i st ro)
      advances_so =
          subst (λ (p : Pass). Advances rs table (reached p) (lent p.items v.starts v.rows) p.at.items r (lent i st ro)) came.is advances

      -- It finds no room for the new set: 9, and what was written becomes fillers again, ..
      pub came_no_room : r ≡ None → (u : List ℕ) → u ≡ filled (length units) (take s.used units)
          → record { number = 9; state = s; words = words_of i st ro queue u } ≡ stepped g table s v kinds
      came_no_room no_room u unwritten =
          ap (λ (q : List ℕ). let o : Outcome = record { number = 9; state = s; words = words_of i st ro q u } in o) emptied
          ∙ advance_refused gr table s v came.can kinds came.position going came.there r i st ro advances_so no_room u
          (unwritten ∙ ap (λ (p : Pass). filled (length p.units) (take s.used p.units)) came.is)

      -- .. or the new set is the latest.
      pub came_done : {next : State} → r ≡ Some next → record { number = 0; state = next; words = words_of i st ro queue units } ≡ stepped g table s v kinds
      came_done {next} done =
          (λ k. let o : Outcome = record { number = 0; state = next; words = words_of i st ro (emptied k) (came.is k).units } in o)
          ∙ advance_done gr table s v came.can kinds came.position going came.there r i st ro advances_so next done
