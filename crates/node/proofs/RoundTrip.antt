-- Write then read, and read then write.
use Rattle.std.proofs.Common.{ℕ, zero, suc, ◌+◌, ◌*◌, ◌≤◌, ◌<◌, min, ◌≡◌, refl, sym, ap, subst, ◌∙◌, Bool, true, false, List, [], ◌∷◌, ◌++◌, arith, length, get_or, replicate, length-append, get_or-append-add, leb, leb-true, Some}
use lib.ListN.{length-replicate}
use Rattle.node.specs.Choice.{pick}
use Rattle.node.specs.Rows.{units_at, unfit, row_of, count_limit}
use Rattle.node.specs.Answers.{Answer, answer, refused, done, value_unfit, out_of_room, node, position, nothing}
use Rattle.node.specs.Writing.{StoreOutcome, usable, usable_units, put, place, write_units, write_at}
use Rattle.node.specs.Reading.{filler, head_from, stand_all, stand, spelt_by, long_spelt, value_at, read_units, read_at}
use Rattle.node.specs.declared.Node.{Node}
use Rattle.node.specs.declared.Node.TheVariants.{Sum}
use Rattle.node.proofs.Fit.{fit-sum}
use Rattle.node.proofs.Fillers.{head-here}
use Rattle.node.proofs.Runs.{length-usable, length-put, place_done, write_some}
use Rattle.node.proofs.Stands.{all-stand}
use Rattle.node.proofs.Spells.{units_spell}
use Rattle.node.proofs.Exact.{Within, within, Read, read_taken, read-stands}
use Rattle.node.proofs.Puts.{put-stands, put-standing, put-below, put-behind}

-- A node that stands somewhere is fit.
pub standing-fit : (s : List ℕ) (q : ℕ) (n : Node) → stand s q (units_at q n) ≡ true → unfit q n ≡ false
unfolding units_at stand
standing-fit s q n st = on (unfit q n) refl st
  where
    on : (t : Bool) → unfit q n ≡ t → stand s q (pick t [] (row_of q n)) ≡ true → unfit q n ≡ false
    on true e st = cc
    on false e st = e

-- No node begins with a filler.
pub no_filler : (s : List ℕ) (q : ℕ) (n : Node) → stand s q (units_at q n) ≡ true → get_or s q 0 ≡ filler → ⊥
unfolding long_spelt
no_filler s q n st is =
    let like : spelt_by s q 0xFFFF ≡ Some n = ap (spelt_by s q) (sym is) ∙ units_spell s q n st in
    let wide : n ≡ Sum (0x1FFF * 65536 + get_or s (q + 1) 0) (value_at s (q + 2)) = cc in
    let small : 0x1FFF * 65536 + get_or s (q + 1) 0 < count_limit = fit-sum q wide (standing-fit s q n st) in
    omega (arith, small)

-- Units that stand, and what they stand for, at the very position.
pub head-standing : (s : List ℕ) (q : ℕ) (n : Node) → stand s q (units_at q n) ≡ true → head_from s q ≡ q
head-standing s q n st =
    let w : Within s q (units_at q n) = within s q (units_at q n) st in
    head-here s q (omega (arith, w.some, w.inside)) (no_filler s q n st)

pub read-standing :
    (s :
    List ℕ) (q : ℕ) (n : Node) → stand s q (units_at q n) ≡ true
    → read_units s q ≡ answer done (node n (q + length (units_at q n)))
read-standing s q n st =
    let at : head_from s q ≡ q = head-standing s q n st in
    read-stands s q n (subst (λ h. stand s h (units_at h n) ≡ true) (sym at) st)
    ∙ ap (λ h. answer done (node n (h + length (units_at h n)))) at

-- What a write that answered 0 did.
pub record Wrote (s : List ℕ) (p : ℕ) (us : List ℕ) (b : ℕ) (t : List ℕ) : Type 0 where
  pub some : 0 < length us
  pub fits : p + length us ≤ min usable_units (length s)
  pub behind : b ≡ p + length us
  pub left : t ≡ put s p us

pub did_write :
    (s : List ℕ) (p : ℕ) (us : List ℕ) (b : ℕ) (t : List ℕ)
    → write_units s p us ≡ record { answer = answer done (position b); store = t } → Wrote s p us b t
unfolding write_units place
did_write s p [] b t e =
    let z : ◌≡◌ {A = Answer} (refused value_unfit p nothing) (answer done (position b)) = ap (λ o. o.answer) e in
    let y : ◌≡◌ {A = ℕ} 0 1 = cc in absurd (omega arith)
did_write s p (u ∷ us) b t e = on (leb (p + suc (length us)) (length (usable s))) refl e
  where
    on : (c : Bool) → leb (p + suc (length us)) (length (usable s)) ≡ c
        → ◌≡◌ {A = StoreOutcome}
        (pick c (record { answer = answer done (position (p + suc (length us))); store = put s p (u ∷ us) })
        (record { answer = refused out_of_room p nothing; store = s }))
        (record { answer = answer done (position b); store = t })
        → Wrote s p (u ∷ us) b t
    on true c e =
        let z : ◌≡◌ {A = Answer} (answer done (position (p + suc (length us)))) (answer done (position b)) = ap (λ o. o.answer) e in
        let y : put s p (u ∷ us) ≡ t = ap (λ o. o.store) e in
        let x : p + suc (length us) ≡ b = cc in
        record {
          some = omega arith;
          fits = omega (arith, leb-true (p + suc (length us)) (length (usable s)) c, length-usable s);
          behind = sym x;
          left = sym y;
        }
    on false c e =
        let z : ◌≡◌ {A = Answer} (refused out_of_room p nothing) (answer done (position b)) = ap (λ o. o.answer) e in
        let y : ◌≡◌ {A = ℕ} 0 1 = cc in absurd (omega arith)

-- Units of which there is one at least stand as units and as a node.
pub stand_all_lem : (s : List ℕ) (q : ℕ) (us : List ℕ) → 0 < length us → stand_all s q us ≡ true → stand s q us ≡ true
unfolding stand
stand_all_lem s q [] some e = absurd (omega (arith, some))
stand_all_lem s q (u ∷ us) some e = e

pub all_of_stand : (s : List ℕ) (q : ℕ) (us : List ℕ) → stand s q us ≡ true → stand_all s q us ≡ true
unfolding stand stand_all
all_of_stand s q [] e = refl
all_of_stand s q (u ∷ us) e = e

-- A write changes no other unit, and no length.
pub record Elsewhere (p b : ℕ) (s t : List ℕ) : Type 0 where
  pub size : length t ≡ length s
  pub before : (i : ℕ) → i < p → get_or t i 0 ≡ get_or s i 0
  pub after : (i : ℕ) → b ≤ i → get_or t i 0 ≡ get_or s i 0

pub write_elsewhere :
    (s : List ℕ) (p : ℕ) (n : Node) (b : ℕ) (t : List ℕ) → write_at s p n ≡ record { answer = answer done (position b); store = t }
    → Elsewhere p b s t
write_elsewhere s p n b t e =
    let w : Wrote s p (units_at p n) b t = did_write s p (units_at p n) b t e in
    record {
      size = ap length w.left ∙ length-put s p (units_at p n);
      before = λ i h. ap (λ l. get_or l i 0) w.left ∙ put-below s p (units_at p n) i h;
      after = λ i h. ap (λ l. get_or l i 0) w.left ∙ put-behind s p (units_at p n) i (omega (arith, h, w.behind));
    }

-- A node that was written stands where it was written.
pub written_stands :
    (s : List ℕ) (p : ℕ) (n : Node) (b : ℕ) (t : List ℕ) → write_at s p n ≡ record { answer = answer done (position b); store = t }
    → stand (usable t) p (units_at p n) ≡ true
written_stands s p n b t e =
    let w : Wrote s p (units_at p n) b t = did_write s p (units_at p n) b t e in
    stand_all_lem (usable t) p (units_at p n) w.some
    (subst (λ l. stand_all (usable l) p (units_at p n) ≡ true) (sym w.left) (put-stands s p (units_at p n) w.fits))

-- Write then read gives the node back, and the same position behind.
pub write_then_read :
    (s : List ℕ) (p : ℕ) (n : Node) (b : ℕ) (t : List ℕ) → write_at s p n ≡ record { answer = answer done (position b); store = t }
    → read_at t p ≡ answer done (node n b)
write_then_read s p n b t e =
    let w : Wrote s p (units_at p n) b t = did_write s p (units_at p n) b t e in
    read-standing (usable t) p n (written_stands s p n b t e) ∙ ap (λ k. answer done (node n k)) (sym w.behind)

-- Whatever read takes is what write would have written there: to write it there changes nothing, and answers the same position behind.
pub read_then_write :
    (s : List ℕ) (p : ℕ) (n : Node) (b : ℕ) → read_at s p ≡ answer done (node n b)
    → write_at s (head_from (usable s) p) n ≡ record { answer = answer done (position b); store = s }
read_then_write s p n b e =
    let r : Read (usable s) p n b = read_taken (usable s) p n b e in
    let h = head_from (usable s) p in
    let w : Within (usable s) h (units_at h n) = within (usable s) h (units_at h n) r.taken.stands in
    write_some s h (units_at h n) (λ z. omega (arith, z, w.some))
    ∙ place_done s h (units_at h n) (omega (arith, w.inside, length-usable s))
    ∙ ap (λ l. record { answer = answer done (position (h + length (units_at h n))); store = l })
    (put-standing s h (units_at h n) (all_of_stand (usable s) h (units_at h n) r.taken.stands))
    ∙ ap (λ k. record { answer = answer done (position k); store = s }) (sym r.taken.behind)

-- Two nodes whose units stand at one position are one node.
pub one_node :
    (s : List ℕ) (q : ℕ) (n m : Node) → stand s q (units_at q n) ≡ true → stand s q (units_at q m) ≡ true → n ≡ m
one_node s q n m a b =
    let like : Some n ≡ Some m = sym (units_spell s q n a) ∙ units_spell s q m b in cc

-- Units stand in a list that has them behind some others.
units_in :
    (front us rest : List ℕ) → 0 < length us → stand (front ++ (us ++ rest)) (length front) us ≡ true
units_in front us rest some = stand_all_lem (front ++ (us ++ rest)) (length front) us some (all-stand _ _ us (λ k h. record {
  within = omega (arith, h, length-append front (us ++ rest), length-append us rest);
  there = get_or-append-add front (us ++ rest) k 0 ∙ get_d_front us rest k h;
}))
  where
    get_d_front : (us rest : List ℕ) (k : ℕ) → k < length us → get_or (us ++ rest) k 0 ≡ get_or us k 0
    get_d_front [] rest k h = absurd (omega (arith, h))
    get_d_front (u ∷ us) rest zero h = refl
    get_d_front (u ∷ us) rest (suc k) h = get_d_front us rest k (omega arith)

-- The units determine the node, and so their number: no node's units are a beginning of another's.
pub units_determine :
    (p :
    ℕ) (n m : Node) (x y : List ℕ) → 0 < length (units_at p n) → 0 < length (units_at p m) → units_at p n ++ x ≡ units_at p m ++ y
    → n ≡ m
units_determine p n m x y a b e =
    let front : List ℕ = replicate p 0 in
    let at : length front ≡ p = length-replicate p 0 in
    let first : stand (front ++ (units_at p n ++ x)) p (units_at p n) ≡ true =
    subst (λ q. stand (front ++ (units_at p n ++ x)) q (units_at p n) ≡ true) at (units_in front (units_at p n) x a) in
    let second : stand (front ++ (units_at p m ++ y)) p (units_at p m) ≡ true =
    subst (λ q. stand (front ++ (units_at p m ++ y)) q (units_at p m) ≡ true) at (units_in front (units_at p m) y b) in
    one_node (front ++ (units_at p m ++ y)) p n m (subst (λ l. stand (front ++ l) p (units_at p n) ≡ true) e first) second
