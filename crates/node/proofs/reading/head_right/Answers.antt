-- `reading::head_right` meets its contract: the head is tested first, then the room.
use Rattle.std.proofs.Common.{◌-◌, ◌≡◌, refl, sym, ◌∙◌, Bool, true, false, length, leb, leb-true, leb-false, ne_eqb}
use Rattle.node.specs.Reading as R
use Rattle.node.proofs.Exact.{head_told, head_other, head_cut}
use Rattle.node.proofs.reading.head_right.Goals as goal

pub returns-then-s-q : goal.returns-then-s-q
returns-then-s-q c = on (leb (length c.args.units.now) (length c.args.s.now - c.args.q)) refl
  where
    on : (t : Bool) → leb (length c.args.units.now) (length c.args.s.now - c.args.q) ≡ t
        → t ≡ R.head_right c.args.s.now c.args.q c.args.units.now
    on true e = sym (head_told _ _ _ c.requires.0 c.requires.1 c.if-s-q.true (leb-true _ _ e))
    on false e = sym (head_cut _ _ _ c.requires.0 (leb-false _ _ e))

pub returns-else-s-q : goal.returns-else-s-q
returns-else-s-q c = ne_eqb _ _ c.if-s-q.false ∙ sym (head_other _ _ _ c.requires.1 c.if-s-q.false)
