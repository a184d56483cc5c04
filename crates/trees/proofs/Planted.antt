-- Where a forest was planted nothing is faulty: each Sum below a handle has its Products behind it, and factors before it.
use Rattle.std.proofs.Common.{◌≡◌, sym, ap, subst, ◌∙◌, List, ◌∷◌, ℕ, ◌<◌, arith, length}
use mathlib.Core.List.{map}
use Rattle.node.specs.Writing.{usable}
use Rattle.node.specs.declared.Node.TheVariants.{Sum}
use Rattle.forest.specs.Forests.{Product, Node, sum, other, Under}
use Rattle.forest.specs.Stores.{node_at}
use Rattle.forest.proofs.Rooted.{Rooted}
use Rattle.forest.proofs.Units.{Row, spell, Standing, standing_is, standing-read, unit_store}
use Rattle.trees.specs.Faults.{asked, asked_at, Faulty, Below, Sound}
use Rattle.trees.specs.Faults.Below.{itself, factor}

-- A Sum that stands with its Products asks for so many.
stands-asked : {store : List ℕ} {h b x : ℕ} (ps : List Product) → Row store h (Sum (length ps) x ∷ map spell ps) b → asked_at store h ≡ length ps
unfolding asked_at
stands-asked {store} {h} {x = x} ps (Row.more st is rest) = standing_is (usable store) h (Sum (length ps) x) asked 0 st

-- So it is not cut off.
not_cut : {store : List ℕ} {h b : ℕ} {n : Node} {ps : List Product} → Standing store h b n → node_at store h ≡ sum ps → length ps < asked_at store h → ⊥
not_cut {store} {h} {ps = ps} (Standing.sums qs row) is short =
    let same : sum qs ≡ sum ps = sym (standing-read (Standing.sums qs row)) ∙ is in
    let products : qs ≡ ps = cc in
    omega (arith, stands-asked qs row, ap length products)
not_cut {store} {h} (Standing.leaf row) is short = let z : ◌≡◌ {A = ℕ} 0 1 = let wrong = sym (standing-read (Standing.leaf row)) ∙ is in cc in omega arith

-- A node that stands is a Sum or a leaf.
stands-other : {store : List ℕ} {h b : ℕ} {n : Node} → Standing store h b n → node_at store h ≡ other → ⊥
stands-other (Standing.sums ps row) e = let z : ◌≡◌ {A = ℕ} 0 1 = let wrong = sym (standing-read (Standing.sums ps row)) ∙ e in cc in omega arith
stands-other (Standing.leaf row) e = let z : ◌≡◌ {A = ℕ} 0 1 = let wrong = sym (standing-read (Standing.leaf row)) ∙ e in cc in omega arith

module _ {store : List ℕ} {used : ℕ} where
  rooted_other : {h : ℕ} → Rooted (unit_store store) used h → node_at store h ≡ other → ⊥
  rooted_other (Rooted.rooted st le low down) e = stands-other st e

  -- A factor of a rooted Sum lies before it, and is rooted.
  factor-low : {h q : ℕ} → Rooted (unit_store store) used h → Under q (node_at store h) → q < h
  factor-low {q = q} (Rooted.rooted st le low down) u = low q (subst (Under q) (standing-read st) u)

  factor_rooted : {h q : ℕ} → Rooted (unit_store store) used h → Under q (node_at store h) → Rooted (unit_store store) used q
  factor_rooted {q = q} (Rooted.rooted st le low down) u = down q (subst (Under q) (standing-read st) u)

  below_rooted : {h s : ℕ} → Rooted (unit_store store) used h → Below store h s → Rooted (unit_store store) used s
  below_rooted r itself = r
  below_rooted r (factor b u l e) = factor_rooted (below_rooted r b) u

  rooted_cut : {h : ℕ} {ps : List Product} → Rooted (unit_store store) used h → node_at store h ≡ sum ps → length ps < asked_at store h → ⊥
  rooted_cut (Rooted.rooted st le low down) is short = not_cut st is short

  -- A rooted Sum is not faulty.
  whole : {h : ℕ} {ps : List Product} → Rooted (unit_store store) used h → node_at store h ≡ sum ps → Faulty store h → ⊥
  whole {ps = ps} r is (Faulty.no_sum none) = none ps is
  whole r is (Faulty.cut_off e short) = rooted_cut r e short
  whole r is (Faulty.late_factor u late) = omega (arith, factor-low r u)
  whole r is (Faulty.no_factor u e) = rooted_other (factor_rooted r u) e

  -- NOTHING BELOW A ROOTED SUM IS FAULTY.
  pub rooted_sound : {h : ℕ} {ps : List Product} → Rooted (unit_store store) used h → node_at store h ≡ sum ps → Sound store h
  rooted_sound {h} r is = record { sound = λ s b f. at b f }
    where
      at : {s : ℕ} → Below store h s → Faulty store s → ⊥
      at itself f = whole r is f
      at (factor b u l e) f = whole (factor_rooted (below_rooted r b) u) e f
