-- A node written behind the used units of a store whose other units are fillers.
use mathlib.Core.Path.{◌≡◌, sym, ap, subst, ◌∙◌}
use mathlib.Core.List.{List, [], ◌∷◌, ◌++◌, append-nil, append_assoc}
use Prim.Native.Nat.{ℕ, ◌+◌, ◌≤◌, ◌<◌, min}
use native.Mathlib.Omega.{arith}
use lib.ListN.{length, take, length-append, get_or-eq_default}
use lib.Seq.{take-append_seam}
use Rattle.node.specs.Rows.{units_at}
use Rattle.node.specs.Answers.{answer, done, position}
use Rattle.node.specs.Writing.{usable_units, put, write_at}
use Rattle.node.specs.Reading.{filler}
use Rattle.node.specs.declared.Node.{Node}
use Rattle.node.proofs.RoundTrip.{Wrote, did_write}
use Rattle.parse.specs.Words.{filled}
use Rattle.parse.specs.Heads.{ToEnd, Meets}
use Rattle.parse.specs.inner.Parts.{Filled}
use Rattle.parse.proofs.Heads.{meets_more, to_end_more, meets_new}
use Rattle.parse.proofs.Padded.{filled-length, filled-unit, filled-set}

-- The used units are those in front of the fillers.
pub filled-used : (size : ℕ) (units : List ℕ) → take (length units) (filled size units) ≡ units
filled-used size units = take-append_seam units _

-- Behind them there are fillers only.
pub filled_spare : (size : ℕ) (units : List ℕ) → Filled (filled size units) (length units)
filled_spare size units = record { each = λ i l. filled-unit size units i ∙ get_or-eq_default units filler {n = i} l }

-- What was written behind them is taken back.
pub filled_back : (size : ℕ) (units more : List ℕ) → take (length units) (filled size (units ++ more)) ≡ units
filled_back size units more = ap (take (length units)) (append_assoc units more _) ∙ take-append_seam units _

-- Units put behind the used ones are used ones more.
pub filled_put : (size : ℕ) (units us : List ℕ) → length units + length us ≤ size → put (filled size units) (length units) us ≡ filled size (units ++ us)
unfolding put
filled_put size units [] l = ap (filled size) (sym (append-nil units))
filled_put size units (u ∷ us) l =
    let behind : length (units ++ (u ∷ [])) ≡ length units + 1 = length-append units (u ∷ []) in
    ap (λ (s : List ℕ). put s (length units + 1) us) (filled-set size units u (omega arith))
    ∙ ap (λ (k : ℕ). put (filled size (units ++ (u ∷ []))) k us) (sym behind)
    ∙ filled_put size (units ++ (u ∷ [])) us (omega arith)
    ∙ ap (filled size) (append_assoc units (u ∷ []) us)

-- What a node leaves that was written behind the used units: it has units there, they fit, and are used units more.
pub record Appended (size : ℕ) (units : List ℕ) (n : Node) (behind : ℕ) (store : List ℕ) : Type 0 where
  pub some : 0 < length (units_at (length units) n)
  pub fits : length units + length (units_at (length units) n) ≤ min usable_units size
  pub behind_is : behind ≡ length (units ++ units_at (length units) n)
  pub store_is : store ≡ filled size (units ++ units_at (length units) n)

pub appended : (size : ℕ) (units : List ℕ) (n : Node) (behind : ℕ) (store : List ℕ) → length units ≤ size
    → write_at (filled size units) (length units) n ≡ record { answer = answer done (position behind); store = store } → Appended size units n behind store
appended size units n behind store l e =
    let us : List ℕ = units_at (length units) n in
    let wrote : Wrote (filled size units) (length units) us behind store = did_write (filled size units) (length units) us behind store e in
    record {
      some = wrote.some;
      fits = omega (arith, wrote.fits, filled-length size units l);
      behind_is = wrote.behind ∙ sym (length-append units us);
      store_is = wrote.left ∙ filled_put size units us (omega (arith, wrote.fits, filled-length size units l));
    }

module _ {size : ℕ} {units : List ℕ} {n : Node} {behind : ℕ} {store : List ℕ} (a : Appended size units n behind store) where
  -- The used units are then the node's too.
  pub appended_used : take behind store ≡ units ++ units_at (length units) n
  appended_used =
      ap (λ (k : ℕ). take k store) a.behind_is
      ∙ ap (take (length (units ++ units_at (length units) n))) a.store_is
      ∙ filled-used size (units ++ units_at (length units) n)

  -- Read to their end as they were, they still are;
  pub appended_reads : ToEnd units 0 → ToEnd (take behind store) 0
  appended_reads reads =
      subst (λ (l : List ℕ). ToEnd l 0) (sym appended_used) (to_end_more units n a.some (omega (arith, a.fits)) (omega arith) reads)

  -- what they met they meet,
  pub appended_keeps : {h : ℕ} → Meets units h 0 → Meets (take behind store) h 0
  appended_keeps {h} m = subst (λ (l : List ℕ). Meets l h 0) (sym appended_used) (meets_more (units_at (length units) n) m)

  -- and the node's head too.
  pub appended_new : ToEnd units 0 → Meets (take behind store) (length units) 0
  appended_new reads =
      subst (λ (l : List ℕ). Meets l (length units) 0) (sym appended_used) (meets_new units n a.some (omega (arith, a.fits)) (omega arith) reads)
