-- The reader takes exactly what the writer writes.
use Rattle.std.proofs.Common.{ℕ, suc, ◌+◌, ◌-◌, ◌≤◌, ◌<◌, ◌≡◌, refl, sym, ap, subst, ◌∙◌, Bool, true, false, List, [], ◌∷◌, arith, length, get_or, length-set, ltb, ltb-false, lt-ltb, le-ltb, ltb-true, le-leb, Option, Some, None}
use borrow.Author.Tests.{lt-leb}
use Rattle.node.specs.Choice.{pick, both}
use Rattle.node.specs.Rows.{units_at}
use Rattle.node.specs.Answers.{Answer, answer, refused, done, no_node, node, end, nothing}
use Rattle.node.specs.Reading.{head_from, stand, stand_all, spelt, head_stands, head_right, faults, lowest, take_node, read_here, read_units}
use Rattle.node.specs.Reading.{NoNodeAt, zero_behind, Exactly}
use Rattle.node.specs.declared.Node.{Node}
use Rattle.node.proofs.Stands.{hold, First, first-stands}
use Rattle.node.proofs.Spells.{units_spell}
use Rattle.node.proofs.Lowest.{wrong_head, other-head, second_told}
use Rattle.node.proofs.Almost.{Narrow, Almost, almost, stands, wide}
use Rattle.node.proofs.Mends.{Mends, mends, standing, leaf, zero-stands}

-- What a node has that was read: its units stand at the head, and the position behind is behind them.
pub record Taken (s : List ℕ) (h : ℕ) (n : Node) (b : ℕ) : Type 0 where
  pub stands : stand s h (units_at h n) ≡ true
  pub behind : b ≡ h + length (units_at h n)

-- Units that stand are within the store, and there is one at least.
pub record Within (s : List ℕ) (h : ℕ) (us : List ℕ) : Type 0 where
  pub some : 0 < length us
  pub inside : h + length us ≤ length s

all-within : (s : List ℕ) (h u : ℕ) (us : List ℕ) → stand_all s h (u ∷ us) ≡ true → h + length (u ∷ us) ≤ length s
all-within s h u [] e = omega (arith, (first-stands s h u [] e).first.within)
all-within s h u (v ∷ us) e =
    let r : h + 1 + suc (length us) ≤ length s = all-within s (h + 1) v us (first-stands s h u (v ∷ us) e).others in omega arith

pub within : (s : List ℕ) (h : ℕ) (us : List ℕ) → stand s h us ≡ true → Within s h us
unfolding stand
within s h [] e = let z : ◌≡◌ {A = ℕ} 0 1 = cc in absurd (omega arith)
within s h (u ∷ us) e = record { some = omega arith; inside = all-within s h u us e }

-- Units that stand have their head and their length right, and so have others with the same head and length.
pub right_of :
    (s : List ℕ) (q u : ℕ) (us vs : List ℕ) → length us ≡ length vs → stand_all s q (u ∷ us) ≡ true → head_right s q (u ∷ vs) ≡ true
unfolding head_right head_stands
right_of s q u us vs same st =
    let f : First s q u us = first-stands s q u us st in
    simp (
      hold s q u f.first.within f.first.there,
      le-leb (q + suc (length vs)) (length s) (omega (arith, all-within s q u us st, same)),
    )

-- So units whose head or length is wrong do not stand.
wrong_falls : (s : List ℕ) (q : ℕ) (us : List ℕ) → head_right s q us ≡ false → stand s q us ≡ false
unfolding stand
wrong_falls s q [] wrong = refl
wrong_falls s q (u ∷ us) wrong = on (stand_all s q (u ∷ us)) refl
  where
    on : (t : Bool) → stand_all s q (u ∷ us) ≡ t → stand_all s q (u ∷ us) ≡ false
    on true e = let z : ◌≡◌ {A = Bool} true false = sym (right_of s q u us us refl e) ∙ wrong in cc
    on false e = e

pub stand-right : (s : List ℕ) (q : ℕ) (us : List ℕ) → head_right s q us ≡ true → stand_all s q us ≡ true → stand s q us ≡ true
unfolding stand head_right head_stands
stand-right s q [] right st = right
stand-right s q (u ∷ us) right st = st

-- Units that a zero behind the head makes stand begin within the store.
mended-before : (s : List ℕ) (q : ℕ) (n : Node) → stand (zero_behind s q) q (units_at q n) ≡ true → q < length s
mended-before s q n st =
    let w : Within (zero_behind s q) q (units_at q n) = within (zero_behind s q) q (units_at q n) st in
    omega (arith, w.some, w.inside, length-set s (q + 1) 0)

-- At a position some node's units stand, or none's do.
data Standing (s : List ℕ) (q : ℕ) : Type 0 where
  some : (n : Node) → stand s q (units_at q n) ≡ true → Standing s q
  none : NoNodeAt s q → Standing s q

-- Where the node that units spell does not stand, none does.
none_stands : (s : List ℕ) (q : ℕ) (m : Node) → spelt s q ≡ Some m → stand s q (units_at q m) ≡ false → NoNodeAt s q
none_stands s q m like st n sn =
    let both : Some m ≡ Some n = sym like ∙ units_spell s q n sn in
    let same : n ≡ m = cc in
    let z : ◌≡◌ {A = Bool} true false = sym (subst (λ k. stand s q (units_at q k) ≡ true) same sn) ∙ st in
    let y : ◌≡◌ {A = ℕ} 0 1 = cc in omega arith

standing_or_none : (s : List ℕ) (q : ℕ) → Standing s q
standing_or_none s q = spelt_case (spelt s q) refl
  where
    stand_case : (m : Node) → spelt s q ≡ Some m → (t : Bool) → stand s q (units_at q m) ≡ t → Standing s q
    stand_case m like true st = some m st
    stand_case m like false st = none (none_stands s q m like st)

    spelt_case : (x : Option Node) → spelt s q ≡ x → Standing s q
    spelt_case (Some m) like = stand_case m like (stand s q (units_at q m)) refl
    spelt_case None like =
        none (λ n sn.
        let both : None ≡ Some n = sym like ∙ units_spell s q n sn in
        let z : ◌≡◌ {A = ℕ} 0 1 = cc in omega arith)

-- A node that units spell is taken where its own units stand, and nowhere else.
pub take_like :
    (s : List ℕ) (h : ℕ) (n : Node) (u : List ℕ) → u ≡ units_at h n → stand s h u ≡ true
    → take_node s h (Some n) ≡ answer done (node n (h + length u))
unfolding take_node
take_like s h n u is st = rw (sym is, st)

pub take_none :
    (s : List ℕ) (h : ℕ) (n : Node) (u : List ℕ) → u ≡ units_at h n → stand s h u ≡ false
    → take_node s h (Some n) ≡ refused no_node (lowest (faults s h (Some n))) nothing
unfolding take_node
take_none s h n u is st = rw (sym (ap (λ v. stand s h v) is) ∙ st)

-- What the reader answers at a head.
pub here-taken : {k : ℕ} (s : List ℕ) (h : ℕ) (n : Node) (b : ℕ) → read_here s h ≡ answer k (node n b) → Taken s h n b
unfolding read_here take_node
here-taken {k} s h n b e = spelt_case (spelt s h) e
  where
    stand_case : (m : Node) (t : Bool) → stand s h (units_at h m) ≡ t
        → pick t (answer done (node m (h + length (units_at h m)))) (refused no_node (lowest (faults s h (Some m))) nothing) ≡ answer k (node n b)
        → Taken s h n b
    stand_case m true st e =
        let same : m ≡ n = cc in
        let at : h + length (units_at h m) ≡ b = cc in
        subst (λ x. Taken s h x b) same (record { stands = st; behind = sym at })
    stand_case m false st e = record { stands = cc; behind = cc }

    spelt_case : (x : Option Node) → take_node s h x ≡ answer k (node n b) → Taken s h n b
    spelt_case (Some m) e = stand_case m (stand s h (units_at h m)) refl e
    spelt_case None e = record { stands = cc; behind = cc }

pub here-read :
    (s :
    List ℕ) (h : ℕ) (n : Node) → stand s h (units_at h n) ≡ true → read_here s h ≡ answer done (node n (h + length (units_at h n)))
unfolding read_here take_node
here-read s h n st = ap (take_node s h) (units_spell s h n st) ∙ rw st

-- What the reader answers from a position on.
pub record Read (s : List ℕ) (p : ℕ) (n : Node) (b : ℕ) : Type 0 where
  pub before : head_from s p < length s
  pub taken : Taken s (head_from s p) n b

pub read_taken : {k : ℕ} (s : List ℕ) (p : ℕ) (n : Node) (b : ℕ) → read_units s p ≡ answer k (node n b) → Read s p n b
unfolding read_units
read_taken {k} s p n b e = on (ltb (head_from s p) (length s)) refl e
  where
    on : (t : Bool) → ltb (head_from s p) (length s) ≡ t → pick t (read_here s (head_from s p)) (answer done end) ≡ answer k (node n b)
        → Read s p n b
    on true l e = record { before = ltb-true (head_from s p) (length s) l; taken = here-taken s (head_from s p) n b e }
    on false l e = let z : ◌≡◌ {A = ℕ} 0 1 = cc in absurd (omega arith)

pub read-stands :
    (s : List ℕ) (p : ℕ) (n : Node) → stand s (head_from s p) (units_at (head_from s p) n) ≡ true
    → read_units s p ≡ answer done (node n (head_from s p + length (units_at (head_from s p) n)))
unfolding read_units
read-stands s p n st =
    let w : Within s (head_from s p) (units_at (head_from s p) n) = within s (head_from s p) (units_at (head_from s p) n) st in
    rw (lt-ltb (head_from s p) (length s) (omega (arith, w.some, w.inside))) (here-read s (head_from s p) n st)

-- Where the spelt node's head is wrong, 12 is told at the head.
pub read_head-fault :
    (s : List ℕ) (p : ℕ) (n : Node) → head_from s p < length s → spelt s (head_from s p) ≡ Some n
    → head_right s (head_from s p) (units_at (head_from s p) n) ≡ false
    → read_units s p ≡ refused no_node (head_from s p) nothing
unfolding read_units read_here
read_head-fault s p n before like wrong =
    rw (lt-ltb (head_from s p) (length s) before)
    (ap (take_node s (head_from s p)) like ∙ take_none s (head_from s p) n (units_at (head_from s p) n) refl (wrong_falls s (head_from s p) _ wrong)
    ∙ ap (λ u. refused no_node u nothing) (wrong_head s (head_from s p) n wrong))

-- Where no node stands at a head, 12: at the second unit of a wide leaf that a zero there would mend, and otherwise at the head.
module _ (s : List ℕ) (h : ℕ) (narrow : Narrow s) (never : NoNodeAt s h) where
  falls : (n : Node) → stand s h (units_at h n) ≡ false
  falls n = on (stand s h (units_at h n)) refl
    where
      on : (t : Bool) → stand s h (units_at h n) ≡ t → stand s h (units_at h n) ≡ false
      on true e = absurd (never n e)
      on false e = e

  -- Where no node stands, but a wide leaf's units do but for the second, the second is told.
  pub wide_told :
      (n : Node) (w l r : ℕ) → (w ≡ 0 → ⊥) → units_at h n ≡ w ∷ 0 ∷ l ∷ r ∷ []
      → stand_all s h (w ∷ get_or s (h + 1) 0 ∷ l ∷ r ∷ []) ≡ true → lowest (faults s h (Some n)) ≡ h + 1
  unfolding stand
  wide_told n w l r nonzero is st = on (ltb 0 (get_or s (h + 1) 0)) refl
    where
      on : (t : Bool) → ltb 0 (get_or s (h + 1) 0) ≡ t → lowest (faults s h (Some n)) ≡ h + 1
      on true e = second_told s h w (l ∷ r ∷ []) n is nonzero (right_of s h w _ (0 ∷ l ∷ r ∷ []) refl st) (ltb-true 0 (get_or s (h + 1) 0) e)
      on false e =
          let none : get_or s (h + 1) 0 ≡ 0 = omega (arith, ltb-false 0 (get_or s (h + 1) 0) e) in
          absurd (never n (subst (λ us. stand s h us ≡ true) (sym is) (subst (λ g. stand_all s h (w ∷ g ∷ l ∷ r ∷ []) ≡ true) none st)))

  -- The head is right of no units but a wide leaf's.
  pub right_told :
      (n : Node) → spelt s h ≡ Some n → head_right s h (units_at h n) ≡ true → lowest (faults s h (Some n)) ≡ h + 1
  right_told n like right = on (almost s h narrow n like right)
    where
      on : Almost s h (units_at h n) → lowest (faults s h (Some n)) ≡ h + 1
      on (stands st) = absurd (never n (stand-right s h (units_at h n) right st))
      on (wide w l r nonzero is st) = wide_told n w l r nonzero is st

  here-mended : (n : Node) → stand (zero_behind s h) h (units_at h n) ≡ true → read_here s h ≡ refused no_node (h + 1) nothing
  unfolding read_here
  here-mended n mended = on (mends s h narrow n mended)
    where
      on : Mends s h n → take_node s h (spelt s h) ≡ refused no_node (h + 1) nothing
      on (standing m st) = absurd (never m st)
      on (leaf w l r nonzero is like st) =
          ap (take_node s h) like ∙ take_none s h n (units_at h n) refl (falls n)
          ∙ ap (λ u. refused no_node u nothing) (wide_told n w l r nonzero is st)

  here-fault : NoNodeAt (zero_behind s h) h → read_here s h ≡ refused no_node h nothing
  unfolding read_here take_node faults lowest
  here-fault not-mended = spelt_case (spelt s h) refl
    where
      right_case : (m : Node) (t : Bool) → spelt s h ≡ Some m → head_right s h (units_at h m) ≡ t → lowest (faults s h (Some m)) ≡ h
      right_case m true like right = on (almost s h narrow m like right)
        where
          on : Almost s h (units_at h m) → lowest (faults s h (Some m)) ≡ h
          on (stands st) = absurd (never m (stand-right s h (units_at h m) right st))
          on (wide w l r nonzero is st) =
              absurd (not-mended m (subst (λ us. stand (zero_behind s h) h us ≡ true) (sym is) (zero-stands s h w (get_or s (h + 1) 0) _ st)))
      right_case m false like right = wrong_head s h m right

      spelt_case : (x : Option Node) → spelt s h ≡ x → take_node s h x ≡ refused no_node h nothing
      spelt_case (Some m) like =
          take_none s h m (units_at h m) refl (falls m) ∙ ap (λ u. refused no_node u nothing)
          (right_case m (head_right s h (units_at h m)) like refl)
      spelt_case None like = refl

-- What is answered where the spelt node's units do not stand: the second unit where the head is right, and the head where it is wrong.
pub take_second :
    (s : List ℕ) (h : ℕ) (n : Node) (u : List ℕ) → Narrow s → spelt s h ≡ Some n → u ≡ units_at h n → stand s h u ≡ false
    → head_right s h u ≡ true
    → take_node s h (Some n) ≡ refused no_node (h + 1) nothing
take_second s h n u narrow like is st right =
    let fallen : stand s h (units_at h n) ≡ false = ap (λ v. stand s h v) (sym is) ∙ st in
    take_none s h n u is st
    ∙ ap (λ v. refused no_node v nothing)
    (right_told s h narrow (none_stands s h n like fallen) n like (ap (λ v. head_right s h v) (sym is) ∙ right))

pub take_head :
    (s : List ℕ) (h : ℕ) (n : Node) (u : List ℕ) → u ≡ units_at h n → stand s h u ≡ false → head_right s h u ≡ false
    → take_node s h (Some n) ≡ refused no_node h nothing
take_head s h n u is st wrong =
    take_none s h n u is st
    ∙ ap (λ v. refused no_node v nothing) (wrong_head s h n (ap (λ v. head_right s h v) (sym is) ∙ wrong))

-- An unfit node has no units, and stands nowhere.
pub take_unfit : (s : List ℕ) (h : ℕ) (n : Node) → [] ≡ units_at h n → take_node s h (Some n) ≡ refused no_node h nothing
unfolding stand head_right head_stands
take_unfit s h n is = take_head s h n [] is refl refl

-- What a test of the head and of the room says, of units of which there is one at least.
pub head_told :
    (s : List ℕ) (h : ℕ) (us : List ℕ) → h < length s → 0 < length us → get_or s h 0 ≡ get_or us 0 0 → length us ≤ length s - h
    → head_right s h us ≡ true
unfolding head_right head_stands
head_told s h [] before least is room = absurd (omega (arith, least))
head_told s h (u ∷ us) before least is room =
    simp (hold s h u before is, le-leb (h + suc (length us)) (length s) (omega (arith, before, room)))

pub head_other :
    (s : List ℕ) (h : ℕ) (us : List ℕ) → 0 < length us → (get_or s h 0 ≡ get_or us 0 0 → ⊥) → head_right s h us ≡ false
head_other s h [] least other = absurd (omega (arith, least))
head_other s h (u ∷ us) least other = other-head s h u us other

pub head_cut :
    (s : List ℕ) (h : ℕ) (us : List ℕ) → h < length s → length s - h < length us → head_right s h us ≡ false
unfolding head_right
head_cut s h us before cut =
    rw (lt-leb (h + length us) (length s) (omega (arith, before, cut))) (both_no (head_stands s h us))
  where
    both_no : (t : Bool) → both t false ≡ false
    both_no true = refl
    both_no false = refl

-- The reader's answer is exact.
pub reads-exactly : (s : List ℕ) (p : ℕ) → Narrow s → Exactly s p (read_units s p)
unfolding read_units
reads-exactly s p narrow = record {
  taken = read-stands s p;
  only = λ n q e. (read_taken s p n q e).taken.stands;
  fault = λ before never not-mended.
      rw (lt-ltb (head_from s p) (length s) before) (here-fault s (head_from s p) narrow never not-mended);
  mended = λ never n mended.
      rw (lt-ltb (head_from s p) (length s) (mended-before s (head_from s p) n mended)) (here-mended s (head_from s p) narrow never n mended);
  ended = λ past. rw (le-ltb (head_from s p) (length s) past);
}

-- To be exact says all: there is one exact answer, and the table of heads need not be believed.
pub exactly_is : (s : List ℕ) (p : ℕ) (r : Answer) → Narrow s → Exactly s p r → r ≡ read_units s p
exactly_is s p r narrow exact = end_case (ltb (head_from s p) (length s)) refl
  where
    said : Exactly s p (read_units s p)
    said = reads-exactly s p narrow

    mended_case : head_from s p < length s → NoNodeAt s (head_from s p) → Standing (zero_behind s (head_from s p)) (head_from s p)
        → r ≡ read_units s p
    mended_case before never (some m st) = exact.mended never m st ∙ sym (said.mended never m st)
    mended_case before never (none not-mended) = exact.fault before never not-mended ∙ sym (said.fault before never not-mended)

    stand_case : head_from s p < length s → Standing s (head_from s p) → r ≡ read_units s p
    stand_case before (some m st) = exact.taken m st ∙ sym (said.taken m st)
    stand_case before (none never) = mended_case before never (standing_or_none (zero_behind s (head_from s p)) (head_from s p))

    end_case : (t : Bool) → ltb (head_from s p) (length s) ≡ t → r ≡ read_units s p
    end_case true e = stand_case (ltb-true (head_from s p) (length s) e) (standing_or_none s (head_from s p))
    end_case false e =
        let past : length s ≤ head_from s p = ltb-false (head_from s p) (length s) e in
        exact.ended past ∙ sym (said.ended past)

-- A read goes on, and stays within the store.
pub record Onward (s : List ℕ) (p b : ℕ) : Type 0 where
  pub onward : p < b
  pub inside : b ≤ length s

pub read_onward : {k : ℕ} (s : List ℕ) (p : ℕ) (n : Node) (b : ℕ) → read_units s p ≡ answer k (node n b) → Onward s p b
read_onward s p n b e =
    let r : Read s p n b = read_taken s p n b e in
    let w : Within s (head_from s p) (units_at (head_from s p) n) = within s (head_from s p) _ r.taken.stands in
    record { onward = omega (arith, w.some, r.taken.behind); inside = omega (arith, w.inside, r.taken.behind) }

-- A node comes with the number 0.
pub read_done :
    {k : ℕ} (s : List ℕ) (p : ℕ) (n : Node) (b : ℕ) → read_units s p ≡ answer k (node n b) → read_units s p ≡ answer done (node n b)
read_done s p n b e =
    let r : Read s p n b = read_taken s p n b e in
    read-stands s p n r.taken.stands ∙ ap (λ x. answer done (node n x)) (sym r.taken.behind)
