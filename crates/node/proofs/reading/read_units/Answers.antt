-- `reading::read_units` meets its contract: the node at the head, or the end.
use Rattle.std.proofs.Common.{sym, ◌∙◌, lt-ltb, le-ltb}
use Rattle.std.proofs.lemmas.Result.{err_from_is_err_and}
use Rattle.node.specs.Reading.{read_units}
use Rattle.node.proofs.reading.read_units.Goals as goal

pub returns-in_err-read_here : goal.returns-in_err-read_here
unfolding read_units
returns-in_err-read_here c =
    let p = err_from_is_err_and c.from_residual.result c.from_residual.ensures.1 in
    rw (p.1, p.2) (c.in_err-read_here.ensures ∙ simp (sym c.head_from-q.ensures, lt-ltb _ _ c.if-q-s.true))

pub returns-then-q-s : goal.returns-then-q-s
unfolding read_units
returns-then-q-s c = c.in_ok-read_here.ensures ∙ simp (sym c.head_from-q.ensures, lt-ltb _ _ c.if-q-s.true)

pub returns : goal.returns
unfolding read_units
returns c = simp (sym c.head_from-q.ensures, le-ltb _ _ c.if-q-s.false)
