-- `reading::read_here` meets its contract: the spelt node is taken where its own units stand; otherwise its head is right or wrong.
use Rattle.std.proofs.Common.{sym, ap, ◌∙◌, arith}
use Rattle.node.specs.Reading.{read_here, take_node, faults, lowest}
use Rattle.node.proofs.Exact.{take_like, take_second, take_head, take_unfit}
use Rattle.node.proofs.Almost.{Narrow}
use Rattle.node.proofs.Fit.{own-units, none-fitting}
use Rattle.node.proofs.reading.read_here.Goals as goal

pub returns-in_default : goal.returns-in_default
unfolding read_here take_node faults lowest
returns-in_default c = sym (ap (take_node _ _) (sym c.spelt.ensures ∙ c.in_default.is))

pub returns-in_default-units_of : goal.returns-in_default-units_of
unfolding read_here
returns-in_default-units_of c =
    sym (ap (take_node _ _) (sym c.spelt.ensures ∙ c.in-Some.is)
    ∙ take_unfit _ _ _ (none-fitting _ _ (sym c.in_default-units_of.is ∙ c.units_of.ensures)))

pub returns-then-stands : goal.returns-then-stands
unfolding read_here
returns-then-stands c =
    let own = own-units _ _ _ _ c.as_slice-units.ensures (sym c.in-Some-units_of.is ∙ c.units_of.ensures) in
    sym (ap (take_node _ _) (sym c.spelt.ensures ∙ c.in-Some.is)
    ∙ take_like _ _ _ _ own.is (sym c.stands.ensures ∙ c.if-stands.true))

pub returns-then-head_right : goal.returns-then-head_right
unfolding read_here
returns-then-head_right c =
    let narrow : Narrow c.args.s.now = record { fits = λ i. omega (arith, c.type_inv.s i) } in
    let own = own-units _ _ _ _ c.as_slice-units.ensures (sym c.in-Some-units_of.is ∙ c.units_of.ensures) in
    let like = sym c.spelt.ensures ∙ c.in-Some.is in
    sym (ap (take_node _ _) like
    ∙ take_second _ _ _ _ narrow like own.is
    (sym c.stands.ensures ∙ c.if-stands.false)
    (sym c.head_right.ensures ∙ c.if-head_right.true))

pub returns : goal.returns
unfolding read_here
returns c =
    let own = own-units _ _ _ _ c.as_slice-units.ensures (sym c.in-Some-units_of.is ∙ c.units_of.ensures) in
    sym (ap (take_node _ _) (sym c.spelt.ensures ∙ c.in-Some.is)
    ∙ take_head _ _ _ _ own.is
    (sym c.stands.ensures ∙ c.if-stands.false)
    (sym c.head_right.ensures ∙ c.if-head_right.false))

pub stands-requires : goal.stands-requires
stands-requires c =
    let own = own-units _ _ _ _ c.as_slice-units.ensures (sym c.in-Some-units_of.is ∙ c.units_of.ensures) in
    (c.requires.0, own.size.some)

pub head_right-requires : goal.head_right-requires
head_right-requires c =
    let own = own-units _ _ _ _ c.as_slice-units.ensures (sym c.in-Some-units_of.is ∙ c.units_of.ensures) in
    (c.requires.0, own.size.some)
