-- Reading units from a position on, node by node, also when a node is written behind them.
use mathlib.Core.Path.{◌≡◌, refl, sym, ap, subst, ◌∙◌}
use mathlib.Core.Bool.{Bool, true, false}
use mathlib.Core.List.{List, [], ◌∷◌, ◌++◌, append-nil}
use Prim.Native.Nat.{ℕ, suc, ◌+◌, ◌-◌, ◌≤◌, ◌<◌}
use native.Mathlib.Decide.{dec_le}
use native.Mathlib.Omega.{arith}
use lib.ListN.{length, get_or, take, drop, length-append, length-drop, length-take, get_or-append}
use lib.Seq.{take-append-le, take-append-add, take_all, drop-append-le, drop-append_seam, get_or-append-add}
use lib.Dec.{ltb, eqb}
use borrow.Author.Tests.{ltb-false, le-ltb}
use Rattle.std.specs.Prelude.{Option, Some, None}
use Rattle.node.specs.Choice.{pick}
use Rattle.node.specs.Rows.{units_at}
use Rattle.node.specs.Answers.{answer, refused, done, no_node, node, end, nothing}
use Rattle.node.specs.Writing.{usable, usable_units}
use Rattle.node.specs.Reading.{filler, fillers, head_from, stand, spelt, take_node, read_here, read_units, read_at, faults, lowest}
use Rattle.node.specs.declared.Node.{Node}
use Rattle.node.proofs.Stands.{Holds, all_held, all-stand}
use Rattle.node.proofs.Exact.{within, Read, read_taken, read-stands, read_onward}
use Rattle.node.proofs.RoundTrip.{head-standing, stand_all_lem, all_of_stand}
use Rattle.parse.specs.Heads.{ToEnd, ends, on, Meets, here, later}

-- Usable units are all usable.
pub usable-all : (units : List ℕ) → length units ≤ usable_units → usable units ≡ units
usable-all units l = take_all usable_units units l

-- Of units with more behind them the usable ones are the usable units, and then what else is usable.
usable-more : (units more : List ℕ) → usable (units ++ more) ≡ usable units ++ take (usable_units - length units) more
usable-more units more = elim (dec_le usable_units (length units)) [
  | yes l ↦
      take-append-le usable_units units more l
      ∙ sym (append-nil (usable units))
      ∙ ap (λ (k : ℕ). usable units ++ take k more) (none l)
  | no l ↦
      ap (λ (k : ℕ). take k (units ++ more)) (split l)
      ∙ take-append-add units more (usable_units - length units)
      ∙ ap (λ (s : List ℕ). s ++ take (usable_units - length units) more) (sym (usable-all units (omega arith)))
]
  where
    none : usable_units ≤ length units → 0 ≡ usable_units - length units
    none l = omega arith

    split : (usable_units ≤ length units → ⊥) → usable_units ≡ length units + (usable_units - length units)
    split l = omega arith

-- A filler is counted, and what is no filler ends the count.
count-filler : (x : ℕ) (xs : List ℕ) → eqb x filler ≡ true → fillers (x ∷ xs) ≡ suc (fillers xs)
unfolding fillers
count-filler x xs e = rw e

count-ends : (x : ℕ) (xs : List ℕ) → eqb x filler ≡ false → fillers (x ∷ xs) ≡ 0
unfolding fillers
count-ends x xs e = rw e

-- There are no more fillers than units.
fillers_most : (xs : List ℕ) → fillers xs ≤ length xs
unfolding fillers
fillers_most [] = omega arith
fillers_most (x ∷ xs) = at (eqb x filler) refl (fillers_most xs)
  where
    at : (t : Bool) → eqb x filler ≡ t → fillers xs ≤ length xs → pick (eqb x filler) (suc (fillers xs)) 0 ≤ suc (length xs)
    at true e l = rw e (omega arith)
    at false e l = rw e (omega arith)

-- Units that do not only begin with fillers begin with as many, whatever stands behind them;
fillers-more : (xs more : List ℕ) → fillers xs < length xs → fillers (xs ++ more) ≡ fillers xs
fillers-more [] more l = absurd (omega (arith, l))
fillers-more (x ∷ xs) more l = at (eqb x filler) refl (fillers-more xs more)
  where
    at : (t : Bool) → eqb x filler ≡ t → (fillers xs < length xs → fillers (xs ++ more) ≡ fillers xs) → fillers (x ∷ (xs ++ more)) ≡ fillers (x ∷ xs)
    at true e rest =
        let counted : fillers (x ∷ xs) ≡ suc (fillers xs) = count-filler x xs e in
        count-filler x (xs ++ more) e ∙ ap suc (rest (omega arith)) ∙ sym counted
    at false e rest = count-ends x (xs ++ more) e ∙ sym (count-ends x xs e)

-- and fillers alone are counted with those behind them.
fillers-over : (xs more : List ℕ) → fillers xs ≡ length xs → fillers (xs ++ more) ≡ length xs + fillers more
fillers-over [] more e = omega arith
fillers-over (x ∷ xs) more e = at (eqb x filler) refl (fillers-over xs more)
  where
    at : (t : Bool) → eqb x filler ≡ t → (fillers xs ≡ length xs → fillers (xs ++ more) ≡ length xs + fillers more)
        → fillers (x ∷ (xs ++ more)) ≡ suc (length xs) + fillers more
    at true is rest =
        let counted : fillers (x ∷ xs) ≡ suc (fillers xs) = count-filler x xs is in
        omega (arith, count-filler x (xs ++ more) is, rest (omega arith))
    at false is rest = absurd (omega (arith, e, count-ends x xs is))

module _ (s more : List ℕ) where
  -- A head stays the head, whatever stands behind the units.
  head_more : (p : ℕ) → head_from s p < length s → head_from (s ++ more) p ≡ head_from s p
  head_more p l =
      ap (λ us. p + fillers us) (drop-append-le p s more (omega arith))
      ∙ ap (λ k. p + k) (fillers-more (drop p s) more (omega (arith, length-drop p s)))

  -- Where only fillers are left, the head is the one behind them.
  head-over : (p : ℕ) → p ≤ length s → length s ≤ head_from s p → head_from (s ++ more) p ≡ head_from (s ++ more) (length s)
  head-over p l past =
      ap (λ us. p + fillers us) (drop-append-le p s more l)
      ∙ ap (λ k. p + k) (fillers-over (drop p s) more (omega (arith, length-drop p s, fillers_most (drop p s))))
      ∙ (let at : p + (length (drop p s) + fillers more) ≡ length s + fillers more = omega (arith, length-drop p s) in at)
      ∙ ap (λ us. length s + fillers us) (sym (drop-append_seam s more))

  -- Units that stand still stand.
  stand-more : (h : ℕ) (us : List ℕ) → stand s h us ≡ true → stand (s ++ more) h us ≡ true
  stand-more h us st =
      stand_all_lem (s ++ more) h us (within s h us st).some
      (all-stand (s ++ more) h us
      (λ k low.
      let held : Holds s (h + k) (get_or us k 0) = all_held s h us (all_of_stand s h us st) k low in
      record {
        within = omega (arith, held.within, length-append s more);
        there = get_or-append s more 0 (h + k) held.within ∙ held.there;
      }))

  -- A node that is read is still read.
  read_more : (p : ℕ) (n : Node) (b : ℕ) → read_units s p ≡ answer done (node n b) → read_units (s ++ more) p ≡ answer done (node n b)
  read_more p n b e =
      let r : Read s p n b = read_taken s p n b e in
      let at : head_from (s ++ more) p ≡ head_from s p = head_more p r.before in
      let st : stand (s ++ more) (head_from s p) (units_at (head_from s p) n) ≡ true = stand-more (head_from s p) (units_at (head_from s p) n) r.taken.stands in
      read-stands (s ++ more) p n (subst (λ h. stand (s ++ more) h (units_at h n) ≡ true) (sym at) st)
      ∙ ap (λ h. answer done (node n (h + length (units_at h n)))) at
      ∙ ap (λ k. answer done (node n k)) (sym r.taken.behind)

-- The end is told where no head is left, and nowhere else.
pub read_past : (s : List ℕ) (p : ℕ) → length s ≤ head_from s p → read_units s p ≡ answer done end
unfolding read_units
read_past s p l = rw (le-ltb (head_from s p) (length s) l)

pub past_read : (s : List ℕ) (p : ℕ) → read_units s p ≡ answer done end → length s ≤ head_from s p
unfolding read_units read_here take_node
past_read s p e = test_case (ltb (head_from s p) (length s)) refl e
  where
    stand_case : (m : Node) (t : Bool)
        → pick t (answer done (node m (head_from s p + length (units_at (head_from s p) m)))) (refused no_node (lowest (faults s (head_from s p) (Some m))) nothing)
        ≡ answer done end → ⊥
    stand_case m true e = let z : ◌≡◌ {A = ℕ} 0 1 = cc in omega arith
    stand_case m false e = let z : ◌≡◌ {A = ℕ} 0 1 = cc in omega arith

    spelt_case : (x : Option Node) → take_node s (head_from s p) x ≡ answer done end → ⊥
    spelt_case (Some m) e = stand_case m (stand s (head_from s p) (units_at (head_from s p) m)) e
    spelt_case None e = let z : ◌≡◌ {A = ℕ} 0 1 = cc in omega arith

    test_case : (t : Bool) → ltb (head_from s p) (length s) ≡ t → pick t (read_here s (head_from s p)) (answer done end) ≡ answer done end → length s ≤ head_from s p
    test_case true l e = absurd (spelt_case (spelt s (head_from s p)) e)
    test_case false l e = ltb-false (head_from s p) (length s) l

-- Whatever units meet from p on, they meet with any units behind them.
pub meets_more : {units : List ℕ} {h p : ℕ} (more : List ℕ) → Meets units h p → Meets (units ++ more) h p
meets_more {units} {h} {p} more (here {q = q} {n = n} e at) =
    let rest = take (usable_units - length units) more in
    here {n = n} (ap (λ s. read_units s p) (usable-more units more) ∙ read_more (usable units) rest p n q e)
    (ap (λ s. head_from s p) (usable-more units more) ∙ head_more (usable units) rest p (read_taken (usable units) p n q e).before ∙ at)
meets_more {units} {h} {p} more (later {q = q} {n = n} e m) =
    later {n = n} (ap (λ s. read_units s p) (usable-more units more) ∙ read_more (usable units) (take (usable_units - length units) more) p n q e) (meets_more more m)

-- A head that is met is a unit: so a handle lies before whatever is written behind the units.
pub meets_below : {units : List ℕ} {h p : ℕ} → Meets units h p → h < length units
meets_below {units} {h} {p} (here {q = q} {n = n} e at) =
    omega (arith, (read_taken (usable units) p n q e).before, length-take usable_units units)
meets_below (later e m) = meets_below m

-- No units read to their end.
pub to_end_empty : ToEnd [] 0
to_end_empty = ends (read_past [] 0 (omega arith))

-- A node behind units that it fits: it has units there, as a fit node has, and they are usable.
module _ (units : List ℕ) (n : Node) (some : 0 < length (units_at (length units) n)) (fits : length units + length (units_at (length units) n) ≤ usable_units) where
  abbrev longer : List ℕ
  longer = units ++ units_at (length units) n

  -- All of them are usable.
  all-usable : usable longer ≡ longer
  all-usable = usable-all longer (omega (arith, length-append units (units_at (length units) n)))

  -- It stands there,
  stands-behind : stand longer (length units) (units_at (length units) n) ≡ true
  stands-behind =
      stand_all_lem longer (length units) (units_at (length units) n) some
      (all-stand longer (length units) (units_at (length units) n)
      (λ k low.
      record {
        within = omega (arith, length-append units (units_at (length units) n));
        there = get_or-append-add units (units_at (length units) n) k 0;
      }))

  -- with its head there,
  head-behind : head_from longer (length units) ≡ length units
  head-behind = head-standing longer (length units) n stands-behind

  -- so it is the one that is met from where reading the units told the end,
  module _ (p : ℕ) (low : p ≤ length units) (e : read_at units p ≡ answer done end) where
    new-head : head_from (usable longer) p ≡ length units
    new-head =
        let past : length units ≤ head_from units p =
        past_read units p (ap (λ s. read_units s p) (sym (usable-all units (omega arith))) ∙ e) in
        ap (λ s. head_from s p) all-usable
        ∙ head-over units (units_at (length units) n) p low past
        ∙ head-behind

    new-read : read_at longer p ≡ answer done (node n (length longer))
    new-read =
        let at : head_from longer p ≡ length units = ap (λ s. head_from s p) (sym all-usable) ∙ new-head in
        ap (λ s. read_units s p) all-usable
        ∙ read-stands longer p n (subst (λ h. stand longer h (units_at h n) ≡ true) (sym at) stands-behind)
        ∙ ap (λ h. answer done (node n (h + length (units_at h n)))) at
        ∙ ap (λ k. answer done (node n k)) (sym (length-append units (units_at (length units) n)))

  -- and behind it is the end.
  new-end : read_at longer (length longer) ≡ answer done end
  new-end =
      ap (λ s. read_units s (length longer)) all-usable
      ∙ read_past longer (length longer) (omega arith)

  -- What was read of the units is read still, and within them.
  kept : (p q : ℕ) (m : Node) → read_at units p ≡ answer done (node m q) → read_at longer p ≡ answer done (node m q)
  kept p q m e =
      ap (λ s. read_units s p) all-usable
      ∙ read_more units (units_at (length units) n) p m q (ap (λ s. read_units s p) (sym (usable-all units (omega arith))) ∙ e)

  inside : (p q : ℕ) (m : Node) → read_at units p ≡ answer done (node m q) → q ≤ length units
  inside p q m e = omega (arith, (read_onward (usable units) p m q e).inside, length-take usable_units units)

  -- Units that read to their end from p read to their end with a node behind them,
  pub to_end_more : {p : ℕ} → p ≤ length units → ToEnd units p → ToEnd longer p
  to_end_more {p} low (ends e) = on (new-read p low e) (ends new-end)
  to_end_more {p} low (on {q = q} {n = m} e rest) = on (kept p q m e) (to_end_more (inside p q m e) rest)

  -- and meet its head, the position behind the units.
  pub meets_new : {p : ℕ} → p ≤ length units → ToEnd units p → Meets longer (length units) p
  meets_new {p} low (ends e) = here (new-read p low e) (new-head p low e)
  meets_new {p} low (on {q = q} {n = m} e rest) = later (kept p q m e) (meets_new (inside p q m e) rest)
