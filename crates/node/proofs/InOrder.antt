-- Nodes written one behind another are read and walked in order.
use Rattle.std.proofs.Common.{ℕ, zero, suc, ◌+◌, ◌≤◌, ◌<◌, ◌≡◌, refl, sym, ap, subst, ◌∙◌, Bool, true, false, List, [], ◌∷◌, ◌++◌, arith, add-zero, zero-add, length, get_or, drop, length-drop, get_or-drop, eqb}
use Rattle.node.specs.Rows.{units_at}
use Rattle.node.specs.Answers.{Answer, answer, refused, values_of, done, node, position, nothing, end, nodes}
use Rattle.node.specs.Writing.{usable, write_at}
use Rattle.node.specs.Reading.{filler, fillers, head_from, stand, read_units, read_at}
use Rattle.node.specs.Walking.{go_on, walk_on, walk_from, walk_at}
use Rattle.node.specs.declared.Node.{Node}
use Rattle.node.proofs.Runs.{length-usable, length-put}
use Rattle.node.proofs.Stands.{Holds, all_held, all-stand}
use Rattle.node.proofs.Exact.{Onward, read_done, Within, within, Read, read_taken, read-stands, read_onward}
use Rattle.node.proofs.Puts.{put-below, usable-unit}
use Rattle.node.proofs.RoundTrip.{Wrote, did_write, write_then_read, stand_all_lem, all_of_stand}
use Rattle.node.proofs.Walks.{walk-node}

-- Nodes that were written one behind another from p on, into s, leave t, and b is behind the last.
pub data WrittenFrom : List ℕ → ℕ → List Node → List ℕ → ℕ → Type 0 where
  none : {s : List ℕ} {p : ℕ} → WrittenFrom s p [] s p
  more : {s t u : List ℕ} {p q b : ℕ} {n : Node} {ns : List Node}
      → write_at s p n ≡ record { answer = answer done (position q); store = t } → WrittenFrom t q ns u b
      → WrittenFrom s p (n ∷ ns) u b

-- Nodes that are read one behind another from p on, and b is behind the last.
pub data ReadFrom (s : List ℕ) : ℕ → List Node → ℕ → Type 0 where
  none : {p : ℕ} → ReadFrom s p [] p
  more : {p q b : ℕ} {n : Node} {ns : List Node} → read_at s p ≡ answer done (node n q) → ReadFrom s q ns b → ReadFrom s p (n ∷ ns) b

-- Two lists of units are the same below b.
pub record Same (b : ℕ) (s t : List ℕ) : Type 0 where
  pub size : length t ≡ length s
  pub below : (i : ℕ) → i < b → get_or t i 0 ≡ get_or s i 0

-- A filler is counted, and what is no filler ends the count.
count-filler : (x : ℕ) (xs : List ℕ) → eqb x filler ≡ true → fillers (x ∷ xs) ≡ suc (fillers xs)
unfolding fillers
count-filler x xs e = rw e

count-ends : (x : ℕ) (xs : List ℕ) → eqb x filler ≡ false → fillers (x ∷ xs) ≡ 0
unfolding fillers
count-ends x xs e = rw e

-- Lists that are the same up to the first unit that is no filler begin with as many fillers.
same-fillers :
    (xs ys : List ℕ) → fillers xs < length xs → length ys ≡ length xs → ((i : ℕ) → i ≤ fillers xs → get_or ys i 0 ≡ get_or xs i 0)
    → fillers ys ≡ fillers xs
same-fillers [] ys h size same = absurd (omega (arith, h))
same-fillers (x ∷ xs) [] h size same = absurd (omega (arith, size))
same-fillers (x ∷ xs) (y ∷ ys) h size same = on (eqb x filler) refl (λ a c. same-fillers xs ys a (omega (arith, size)) c)
  where
    head : eqb y filler ≡ eqb x filler
    head = ap (λ u. eqb u filler) (same 0 (omega arith))

    on : (t : Bool) → eqb x filler ≡ t
        → (fillers xs < length xs → ((i : ℕ) → i ≤ fillers xs → get_or ys i 0 ≡ get_or xs i 0) → fillers ys ≡ fillers xs)
        → fillers (y ∷ ys) ≡ fillers (x ∷ xs)
    on true e rest =
        let f : fillers (x ∷ xs) ≡ suc (fillers xs) = count-filler x xs e in
        count-filler y ys (head ∙ e)
        ∙ ap suc (rest (omega (arith, f, h)) (λ i le. same (suc i) (omega (arith, f, le))))
        ∙ sym f
    on false e rest = count-ends y ys (head ∙ e) ∙ sym (count-ends x xs e)

-- Units that are the same up to a head have the same head.
same_head : (s t : List ℕ) (p b : ℕ) → Same b s t → head_from s p < b → head_from s p < length s → head_from t p ≡ head_from s p
same_head s t p b same h inside =
    ap (λ k. p + k) (same-fillers (drop p s) (drop p t)
    (omega (arith, inside, length-drop p s))
    (omega (arith, same.size, length-drop p s, length-drop p t))
    (λ i le. get_or-drop p t i 0 ∙ same.below (p + i) (omega (arith, le, h)) ∙ sym (get_or-drop p s i 0)))

-- What is read up to b is read the same from units that are the same below b.
pub same_read :
    (s t : List ℕ) (p : ℕ) (n : Node) (b : ℕ) → Same b s t → read_units s p ≡ answer done (node n b)
    → read_units t p ≡ answer done (node n b)
same_read s t p n b same e =
    let r : Read s p n b = read_taken s p n b e in
    let h = head_from s p in
    let us = units_at (head_from s p) n in
    let w : Within s (head_from s p) (units_at (head_from s p) n) = within s h us r.taken.stands in
    let at : head_from t p ≡ head_from s p =
    same_head s t p b same (omega (arith, w.some, r.taken.behind)) r.before in
    let st : stand t (head_from s p) (units_at (head_from s p) n) ≡ true =
    stand_all_lem t h us w.some (all-stand t h us (λ k le.
    let held : Holds s (head_from s p + k) (get_or (units_at (head_from s p) n) k 0) =
    all_held s h us (all_of_stand s h us r.taken.stands) k le in
    record {
      within = omega (arith, held.within, same.size);
      there = same.below (h + k) (omega (arith, le, r.taken.behind)) ∙ held.there;
    })) in
    read-stands t p n (subst (λ k. stand t k (units_at k n) ≡ true) (sym at) st)
    ∙ ap (λ k. answer done (node n (k + length (units_at k n)))) at
    ∙ ap (λ k. answer done (node n k)) (sym r.taken.behind)

-- A write changes no usable unit below its position.
pub write_keeps :
    (s : List ℕ) (q : ℕ) (n : Node) (b : ℕ) (t : List ℕ) → write_at s q n ≡ record { answer = answer done (position b); store = t }
    → Same q (usable s) (usable t)
write_keeps s q n b t e =
    let w : Wrote s q (units_at q n) b t = did_write s q (units_at q n) b t e in
    let same : length t ≡ length s = ap length w.left ∙ length-put s q (units_at q n) in
    record {
      size = omega (arith, length-usable s, length-usable t, same);
      below = λ i h.
          usable-unit t i (omega (arith, h, w.fits)) ∙ ap (λ l. get_or l i 0) w.left ∙ put-below s q (units_at q n) i h
          ∙ sym (usable-unit s i (omega (arith, h, w.fits)));
    }

pub same-less : {b c : ℕ} {s t : List ℕ} → c ≤ b → Same b s t → Same c s t
same-less le same = record { size = same.size; below = λ i h. same.below i (omega (arith, h, le)) }

-- A node that was read before a position is still read after a write at that position.
pub read_keeps :
    (s : List ℕ) (p : ℕ) (n : Node) (b q : ℕ) (m : Node) (c : ℕ) (t : List ℕ) → read_at s p ≡ answer done (node n b) → b ≤ q
    → write_at s q m ≡ record { answer = answer done (position c); store = t } → read_at t p ≡ answer done (node n b)
read_keeps s p n b q m c t e le w = same_read (usable s) (usable t) p n b (same-less le (write_keeps s q m c t w)) e

-- The same after any number of writes from there on.
reads-keep :
    {s t : List ℕ} {q c : ℕ} {ns : List Node} (p : ℕ) (n : Node) (b : ℕ) → read_at s p ≡ answer done (node n b) → b ≤ q
    → WrittenFrom s q ns t c → read_at t p ≡ answer done (node n b)
reads-keep p n b e le none = e
reads-keep {s} p n b e le (more {t = t} {p = q} {q = d} {n = m} w rest) =
    let wrote : Wrote s q (units_at q m) d t = did_write s q (units_at q m) d t w in
    reads-keep p n b (read_keeps s p n b q m d t e le w) (omega (arith, le, wrote.behind)) rest

-- Nodes written one behind another are read back in order, up to the position behind the last.
pub read-in_order : {s t : List ℕ} {p b : ℕ} {ns : List Node} → WrittenFrom s p ns t b → ReadFrom t p ns b
read-in_order none = none
read-in_order {s} (more {t = t} {p = p} {q = q} {n = n} w rest) =
    more (reads-keep p n q (write_then_read s p n q t w) (omega arith) rest) (read-in_order rest)

-- Nodes that are read are walked: as many are counted, and the walk goes on behind the last.
pub walk-in_order :
    {s : List ℕ} {p b : ℕ} {ns : List Node} (count : ℕ) → ReadFrom s p ns b
    → walk_from (usable s) p count ≡ walk_from (usable s) b (count + length ns)
walk-in_order {s} {p} count none = ap (walk_from (usable s) p) (sym (add-zero count))
walk-in_order {s} {p} {b} count (more {q = q} {n = n} {ns = ns} e rest) =
    let k : count + 1 + length ns ≡ count + suc (length ns) = omega arith in
    walk-node (usable s) p n q count e ∙ walk-in_order (count + 1) rest ∙ ap (walk_from (usable s) b) k

-- The positions of nodes that are read rise.
reads-rise : {s : List ℕ} {p b : ℕ} {ns : List Node} → ReadFrom s p ns b → p ≤ b
reads-rise none = omega arith
reads-rise {s} {p} (more {q = q} {n = n} e rest) = omega (arith, (read_onward (usable s) p n q e).onward, reads-rise rest)

-- After a write behind them, nodes that were read from before are read on, and then the node that was written.
pub read_on :
    {s t : List ℕ} {p q b : ℕ} {ns : List Node} (n : Node) → ReadFrom s p ns q
    → write_at s q n ≡ record { answer = answer done (position b); store = t } → ReadFrom t p (ns ++ (n ∷ [])) b
read_on {s} {t} {p} {q} {b} n none w = more (write_then_read s q n b t w) none
read_on {s} {t} {p} {q} {b} n (more {q = c} {n = m} e rest) w =
    more (read_keeps s p m c q n b t e (reads-rise rest) w) (read_on n rest w)

-- So a walk over nodes that were written one behind another counts them, and goes on behind the last.
pub walk-written :
    {s t : List ℕ} {p b : ℕ} {ns : List Node} → WrittenFrom s p ns t b → walk_at t p ≡ walk_from (usable t) b (length ns)
walk-written {t = t} {b = b} {ns = ns} w =
    walk-in_order 0 (read-in_order w) ∙ ap (walk_from (usable t) b) (zero-add (length ns))

-- What a walk from p becomes by a write where it ended.
record After (t : List ℕ) (p c k q b : ℕ) : Type 0 where
  rises : p ≤ q
  walks : walk_from (usable t) p c ≡ walk_from (usable t) b (k + 1)

module _ (s t : List ℕ) (q : ℕ) (n : Node) (b k : ℕ) (w : write_at s q n ≡ record { answer = answer done (position b); store = t }) where
  after-here : (p c : ℕ) → nodes c p ≡ nodes k q → After t p c k q b
  after-here p c e =
      let at : p ≡ q = cc in
      let counted : c ≡ k = cc in
      record {
        rises = omega (arith, at);
        walks = ap (λ x. walk_from (usable t) x c) at ∙ walk-node (usable t) q n b c (write_then_read s q n b t w)
            ∙ ap (λ x. walk_from (usable t) b (x + 1)) counted;
      }

  after_step :
      (p c : ℕ) (f : ℕ → Answer) (r : Answer) → read_units (usable s) p ≡ r → values_of (go_on r f c p) ≡ nodes k q
      → ((x : ℕ) → values_of (f x) ≡ nodes k q → After t x (c + 1) k q b) → After t p c k q b
  after_step p c f (answer number (node l x)) e walked rest =
      let a : After t x (c + 1) k q b = rest x walked in
      let o : Onward (usable s) p x = read_onward (usable s) p l x e in
      let is : read_units (usable s) p ≡ answer done (node l x) = read_done (usable s) p l x e in
      record {
        rises = omega (arith, o.onward, a.rises);
        walks = walk-node (usable t) p l x c (read_keeps s p l x q n b t is a.rises w) ∙ a.walks;
      }
  after_step p c f (answer number nothing) e walked rest = after-here p c walked
  after_step p c f (answer number (position x)) e walked rest = after-here p c walked
  after_step p c f (answer number end) e walked rest = after-here p c walked
  after_step p c f (answer number (nodes j x)) e walked rest = after-here p c walked
  after_step p c f (refused number place values) e walked rest = after-here p c walked

  after_write : (reads p c : ℕ) → values_of (walk_on reads (usable s) p c) ≡ nodes k q → After t p c k q b
  unfolding walk_on
  after_write zero p c e = after-here p c e
  after_write (suc reads) p c e =
      after_step p c (λ x. walk_on reads (usable s) x (c + 1)) (read_units (usable s) p) refl e (λ x h. after_write reads x (c + 1) h)

  -- After a write where a walk ended, at the end or at a fault, the walk from before reads on: it counts one more, and goes on behind the
  -- node that was written.
  pub walk_then_write : (p : ℕ) → values_of (walk_at s p) ≡ nodes k q → walk_at t p ≡ walk_from (usable t) b (k + 1)
  walk_then_write p e = (after_write (suc (length (usable s))) p 0 e).walks
