-- `read` meets its contract: the usable part of the store is read, and the answer is exact.
use Rattle.std.proofs.Common.{◌≡◌, sym, ap, subst, ◌∙◌, arith}
use Rattle.node.specs.Answers.{found}
use Rattle.node.specs.Writing.{usable}
use Rattle.node.specs.Reading.{read_at, read_units, Exactly}
use Rattle.node.proofs.Runs.{usable-part}
use Rattle.node.proofs.Almost.{Narrow}
use Rattle.node.proofs.Puts.{usable-narrow}
use Rattle.node.proofs.Exact.{reads-exactly}
use Rattle.node.proofs.read.Goals as goal

pub returns : goal.returns
returns c =
    let a = c.args in
    let is : found c.read_units.result ≡ read_at a.store.now a.p =
    c.read_units.ensures ∙ ap (λ s. read_units s a.p) (usable-part _ _ c.usable-end.ensures) in
    let narrow : Narrow a.store.now = record { fits = λ i. omega (arith, c.type_inv.store i) } in record {
      answers = is;
      exactly = subst (Exactly (usable a.store.now) a.p) (sym is) (reads-exactly (usable a.store.now) a.p (usable-narrow _ narrow));
    }
