-- `reading::head_from` meets its contract.
use Rattle.std.proofs.Common.{sym, arith, ℕ, ◌-◌, List, length, take, drop, length-take, length-drop}
use Rattle.node.proofs.Fillers.{fillers-few, head_past}
use Rattle.node.proofs.reading.head_from.Goals as goal

pub overflow_add-result : goal.overflow_add-result
overflow_add-result c =
    let rest : List ℕ = take (length c.args.s.now - c.args.p) (drop c.args.p c.args.s.now) in
    omega (
      arith,
      c.fillers.ensures,
      fillers-few rest,
      length-take (length c.args.s.now - c.args.p) (drop c.args.p c.args.s.now),
      length-drop c.args.p c.args.s.now,
    )

pub returns-else-p-s : goal.returns-else-p-s
returns-else-p-s c = sym (head_past _ _ c.if-p-s.false)
