-- `recognizer::step::step` meets its contract.
use mathlib.Core.Bool.{Bool, true, false, false≢true}
use mathlib.Core.List.{List}
use Prim.Native.Nat.{ℕ}
use lib.ListN.{length}
use mathlib.Core.Path.{◌≡◌, sym, ◌∙◌}
use Rattle.parse.specs.declared.State.{State}
use Rattle.completion.specs.Pass.{Progress, pass_over}
use Rattle.demands.specs.Steps.{completed}
use Rattle.grammar.specs.declared.Grammar as held
use Rattle.grammar.specs.inner.Decoded.{decoded}
use Rattle.parse.specs.Words.{Words, words_of}
use Rattle.demands.specs.Positions.{is_position, any_predicted}
use Rattle.demands.proofs.Positions.{any_predicted_lem, predicted-any}
use Rattle.demands.proofs.Ways.{is_no_token, is_not_predicted}
use Rattle.recognizer.specs.inner.Steppable.{Steppable}
use Rattle.recognizer.proofs.OnePosition.{row_there, kinds_fit}
use Rattle.recognizer.proofs.Came.{Came, stopped_some, full_number, came_refused, came_asks, came_no_room, came_done}
use Rattle.recognizer.proofs.step.step.Goals as goal

-- The pass of a position, of which some kind is predicted: this is what it came to.
came : (gr : held.Grammar) (table : List (List ℕ)) (s : State) (v : Words) (kinds : List ℕ) → Steppable (decoded gr) table s v
    → {asked looked_up : Bool} → asked ≡ is_position gr.tokens kinds → asked ≡ true → looked_up ≡ any_predicted v.rows s.set kinds → looked_up ≡ true
    → {at : Progress} {items queue units : List ℕ} → pass_over at items queue units ≡ completed (decoded gr) s v kinds
    → length queue ≡ length v.queue → Came gr table s v kinds at items queue units
came gr table s v kinds can asked whether looked_up some is kept =
    record { can = can; position = sym asked ∙ whether; there = any_predicted_lem s v kinds (sym looked_up ∙ some); is = is; queue-words = kept }

pub returns-then-not-is_position : goal.returns-then-not-is_position
returns-then-not-is_position c =
    let asked = c.is_position in
    sym (is_no_token (decoded c.args.grammar.now) c.args.table.now c.args.state (words_of c.args.items.now c.args.starts.now c.args.rows.now c.args.queue.now c.args.store.now) c.args.kinds.now (sym asked.ensures ∙ c.if-not-is_position.true))

pub any_predicted-requires : goal.any_predicted-requires
any_predicted-requires c =
    let given = c.args in (
      row_there given.grammar.now given.table.now given.state (words_of c.args.items.now c.args.starts.now c.args.rows.now c.args.queue.now c.args.store.now) c.requires.0 given.kinds.now,
      kinds_fit c.args.grammar.now c.args.table.now c.args.state (words_of c.args.items.now c.args.starts.now c.args.rows.now c.args.queue.now c.args.store.now) c.requires.0 c.args.kinds.now
          (sym c.is_position.ensures ∙ c.if-not-is_position.false),
    )

pub returns-then-not-any_predicted : goal.returns-then-not-any_predicted
returns-then-not-any_predicted c =
    let given = c.args in
    let looked-up = c.any_predicted in
    let lacks : any_predicted given.rows.now given.state.set given.kinds.now ≡ false = sym looked-up.ensures ∙ c.if-not-any_predicted.true in
    sym (is_not_predicted (decoded c.args.grammar.now) given.table.now given.state (words_of c.args.items.now c.args.starts.now c.args.rows.now c.args.queue.now c.args.store.now) given.kinds.now (sym c.is_position.ensures ∙ c.if-not-is_position.false)
    (λ some. false≢true (sym lacks ∙ predicted-any given.state (words_of c.args.items.now c.args.starts.now c.args.rows.now c.args.queue.now c.args.store.now) given.kinds.now some)))

pub complete_position-passed-requires : goal.complete_position-passed-requires
complete_position-passed-requires c = (
  c.args.table.now,
  c.requires.0,
  kinds_fit c.args.grammar.now c.args.table.now c.args.state (words_of c.args.items.now c.args.starts.now c.args.rows.now c.args.queue.now c.args.store.now) c.requires.0 c.args.kinds.now
      (sym c.is_position.ensures ∙ c.if-not-is_position.false),
  c.requires.1,
)

pub returns-in-Err : goal.returns-in-Err
returns-in-Err c =
    let passed = c.complete_position-passed in
    let cleared = c.give_up in
    came_refused (came _ _ _ (words_of c.args.items.now c.args.starts.now c.args.rows.now c.args.queue.now c.args.store.now) _ c.requires.0 c.is_position.ensures c.if-not-is_position.false
    c.any_predicted.ensures c.if-not-any_predicted.false passed.ensures.is passed.auto.queue)
    (stopped_some passed.ensures.stopped c.in-Err.is) _ (full_number passed.ensures.stopped c.in-Err.is c.from.ensures) cleared.new.items cleared.new.queue cleared.new.store
    cleared.ensures.items cleared.ensures.queue cleared.ensures.store

pub advance-advanced-requires : goal.advance-advanced-requires
advance-advanced-requires c =
    let passed = c.in-Ok.ensures in
    rw (passed.reached.0, passed.reached.1) (came_asks (came _ _ _ (words_of c.args.items.now c.args.starts.now c.args.rows.now c.args.queue.now c.args.store.now) _ c.requires.0 c.is_position.ensures c.if-not-is_position.false
    c.any_predicted.ensures c.if-not-any_predicted.false passed.is c.complete_position-passed.auto.queue) passed.stopped)

pub returns-in-None : goal.returns-in-None
returns-in-None c =
    let passed = c.in-Ok.ensures in
    let advances = rw (passed.reached.0, passed.reached.1) at c.advance-advanced.ensures in
    came_no_room (came _ _ _ (words_of c.args.items.now c.args.starts.now c.args.rows.now c.args.queue.now c.args.store.now) _ c.requires.0 c.is_position.ensures c.if-not-is_position.false
    c.any_predicted.ensures c.if-not-any_predicted.false passed.is c.complete_position-passed.auto.queue) passed.stopped advances c.in-None.is c.unwrite.new.store c.unwrite.ensures

pub returns-in-Some : goal.returns-in-Some
returns-in-Some c =
    let passed = c.in-Ok.ensures in
    let advances = rw (passed.reached.0, passed.reached.1) at c.advance-advanced.ensures in
    came_done (came _ _ _ (words_of c.args.items.now c.args.starts.now c.args.rows.now c.args.queue.now c.args.store.now) _ c.requires.0 c.is_position.ensures c.if-not-is_position.false
    c.any_predicted.ensures c.if-not-any_predicted.false passed.is c.complete_position-passed.auto.queue) passed.stopped advances c.in-Some.is
