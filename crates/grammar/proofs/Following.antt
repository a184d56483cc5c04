-- What follows a symbol is what stands behind it in sentential forms.
use mathlib.Core.Path.{◌≡◌, sym, subst, ◌∙◌}
use mathlib.Core.List.{List, [], ◌∷◌, ◌++◌, append_assoc}
use mathlib.Core.Logic.{◌⊎◌, inl, inr, ⊎_elim, ◌↔◌}
use Prim.Native.Nat.{ℕ, ◌≤◌, ◌<◌}
use native.Mathlib.Decide.{ℕ_discrete, dec_le}
use native.Mathlib.Omega.{arith}
use Rattle.grammar.specs.Rules.{Grammar, Says, none, wrapper, end_mark}
use Rattle.grammar.specs.Accepted.{Accepted, Nonterminal, Reachable}
use Rattle.grammar.specs.Prediction.{Reaches}
use Rattle.grammar.specs.Prediction.Reaches.{here, by_first}
use Rattle.grammar.specs.Following.{Follows}
use Rattle.grammar.specs.Following.Follows.{beside, last, only}
use Rattle.grammar.specs.Forms.{Form, Behind}
use Rattle.grammar.specs.Forms.Form.{whole, unary, binary}
use Rattle.grammar.proofs.Reached.{reaches_more}

-- `x` stands in some form, behind `before`.
pub record Stands (g : Grammar) (before : List ℕ) (x : ℕ) : Type 0 where
  pub after : List ℕ
  pub form : Form g (before ++ x ∷ after)

-- `x` stands in some form.
pub record Found (g : Grammar) (x : ℕ) : Type 0 where
  pub before : List ℕ
  pub stands : Stands g before x

-- The same form, with the first of the symbols behind `u` counted to what stands before.
onwards : {g : Grammar} (u : List ℕ) (b : ℕ) (v : List ℕ) → Form g (u ++ b ∷ v) → Form g ((u ++ b ∷ []) ++ v)
onwards {g} u b v f = subst (Form g) (sym (append_assoc u (b ∷ []) v)) f

backwards : {g : Grammar} (u : List ℕ) (b : ℕ) (v : List ℕ) → Form g ((u ++ b ∷ []) ++ v) → Form g (u ++ b ∷ v)
backwards {g} u b v f = subst (Form g) (append_assoc u (b ∷ []) v) f

-- In the place of a left side the first symbol of its rule can stand,
first-stands : {g : Grammar} {r a b c : ℕ} (u : List ℕ) → Says g r a b c → Stands g u a → Stands g u b
first-stands {g} {r} {a} {b} {c} u h s = elim (ℕ_discrete c none) [
  | yes e ↦ record { after = s.after; form = unary u s.after (subst (Says g r a b) e h) s.form }
  | no n ↦ record { after = c ∷ s.after; form = binary u s.after h n s.form }
]

-- and whatever it reaches.
reached-stands : {g : Grammar} {x y : ℕ} (u : List ℕ) → Reaches g x y → Stands g u x → Stands g u y
reached-stands u here s = s
reached-stands u (by_first h p) s = reached-stands u p (first-stands u h s)

-- What is reachable stands in some form,
reachable-found : {g : Grammar} {x : ℕ} → Accepted g → Reachable g x → Found g x
reachable-found {g} acc Reachable.from_start =
    record { before = []; stands = record { after = end_mark g ∷ []; form = binary [] [] acc.wraps (omega (arith, acc.few_symbols, acc.room)) whole } }
reachable-found acc (Reachable.by_first h p) =
    let f = reachable-found acc p in
    record { before = f.before; stands = first-stands f.before h f.stands }
reachable-found acc (Reachable.by_second {b = b} {c = c} h n p) =
    let f = reachable-found acc p in
    let s = f.stands in
    record { before = f.before ++ b ∷ []; stands = record { after = s.after; form = onwards f.before b (c ∷ s.after) (binary f.before s.after h n s.form) } }

-- and so does every left side.
left-found : {g : Grammar} {r a b c : ℕ} → Accepted g → Says g r a b c → Found g a
left-found {g} {r} {a} {b} {c} acc h = elim (dec_le r 0) [
  | yes z ↦
      let is : r ≡ 0 = omega arith in
      let left : wrapper g ≡ a = sym acc.wraps.left ∙ (subst (λ (k : ℕ). Says g k a b c) is h).left in
      subst (Found g) left (record { before = []; stands = record { after = []; form = whole } })
  | no p ↦ reachable-found acc (acc.reachable a (subst (Nonterminal g) h.left (acc.lefts r (omega arith) h.there)))
]

-- What follows stands behind.
follows-behind : {g : Grammar} {x y : ℕ} → Accepted g → Follows g x y → Behind g x y
follows-behind {y = y} acc (beside {x = x} {z = z} h n p) =
    let f = left-found acc h in
    let s = f.stands in
    let form = onwards f.before x (z ∷ s.after) (binary f.before s.after h n s.form) in
    let t = reached-stands (f.before ++ x ∷ []) p (record { after = s.after; form = form }) in
    record { before = f.before; after = t.after; form = backwards f.before x (y ∷ t.after) t.form }
follows-behind {y = y} acc (last {b = b} {x = x} h n p) =
    let s = follows-behind acc p in
    record {
      before = s.before ++ b ∷ [];
      after = s.after;
      form = onwards s.before b (x ∷ y ∷ s.after) (binary s.before (y ∷ s.after) h n s.form);
    }
follows-behind {y = y} acc (only h p) =
    let s = follows-behind acc p in
    record { before = s.before; after = s.after; form = unary s.before (y ∷ s.after) h s.form }

-- Each symbol of a list follows the one before it.
data Linked (g : Grammar) : List ℕ → Type 0 where
  none_there : Linked g []
  one_there : {x : ℕ} → Linked g (x ∷ [])
  more : {x y : ℕ} {l : List ℕ} → Follows g x y → Linked g (y ∷ l) → Linked g (x ∷ y ∷ l)

-- What follows does so with the first symbol of its rules.
follows-first : {g : Grammar} {r x a b c : ℕ} → Says g r a b c → Follows g x a → Follows g x b
follows-first h (beside k n p) = beside k n (reaches_more p h)
follows-first h (last k n p) = last k n (follows-first h p)
follows-first h (only k p) = only k (follows-first h p)

module _ {g : Grammar} where
  -- Another first symbol, which whatever followed the first follows too.
  linked_last : {a x : ℕ} (v : List ℕ) → ((y : ℕ) → Follows g a y → Follows g x y) → Linked g (a ∷ v) → Linked g (x ∷ v)
  linked_last [] on l = one_there
  linked_last (y ∷ v) on (more f l) = more (on y f) l

  -- A symbol, and what stands behind it, replaced by a list whose first symbol follows whatever it followed.
  linked_new : {a b : ℕ} (u v w : List ℕ) → ((p : ℕ) → Follows g p a → Follows g p b) → (Linked g (a ∷ v) → Linked g (b ∷ w)) → Linked g (u ++ a ∷ v)
      → Linked g (u ++ b ∷ w)
  linked_new [] v w first rest l = rest l
  linked_new (p ∷ []) v w first rest (more f l) = more (first p f) (rest l)
  linked_new (p ∷ q ∷ u) v w first rest (more f l) = more f (linked_new (q ∷ u) v w first rest l)

  -- So forms are linked.
  form_linked : {w : List ℕ} → Form g w → Linked g w
  form_linked whole = one_there
  form_linked (unary u v h f) = linked_new u v v (λ p. follows-first h) (linked_last v (λ y p. only h p)) (form_linked f)
  form_linked (binary {c = c} u v h n f) =
      linked_new u v (c ∷ v) (λ p. follows-first h) (λ l. more (beside h n here) (linked_last v (λ y p. last h n p) l)) (form_linked f)

  -- And of a linked list each symbol follows the one before it.
  linked_at : {x y : ℕ} (u v : List ℕ) → Linked g (u ++ x ∷ y ∷ v) → Follows g x y
  linked_at [] v (more f l) = f
  linked_at (p ∷ []) v (more f l) = linked_at [] v l
  linked_at (p ∷ q ∷ u) v (more f l) = linked_at (q ∷ u) v l

-- WHAT FOLLOWS IS WHAT STANDS BEHIND: `y` follows `x` exactly when it stands right behind it in some sentential form.
pub follows-exactly : {g : Grammar} {x y : ℕ} → Accepted g → Follows g x y ↔ Behind g x y
follows-exactly acc = (follows-behind acc, λ b. linked_at b.before b.after (form_linked b.form))

-- Neither W nor the end mark is the first symbol of a rule, W is not the second, and the end mark is so only for W.
first-low : {g : Grammar} {r a b c : ℕ} → Accepted g → Says g r a b c → b < wrapper g
first-low {g} {r} {a} {b} {c} acc h = elim (dec_le r 0) [
  | yes z ↦
      let is : r ≡ 0 = omega arith in
      subst (λ (k : ℕ). k < wrapper g) (subst (λ (k : ℕ). Says g k a b c) is h).first acc.starts.no_wrapper
  | no p ↦ subst (λ (k : ℕ). k < wrapper g) h.first (acc.firsts r (omega arith) h.there)
]

second-low : {g : Grammar} {r a b c : ℕ} → Accepted g → Says g r a b c → (c ≡ none → ⊥) → (c < wrapper g) ⊎ ((c ≡ end_mark g) × (a ≡ wrapper g))
second-low {g} {r} {a} {b} {c} acc h n = elim (dec_le r 0) [
  | yes z ↦
      let is : r ≡ 0 = omega arith in
      let outer : Says g 0 a b c = subst (λ (k : ℕ). Says g k a b c) is h in
      inr (sym outer.second ∙ acc.wraps.second, sym outer.left ∙ acc.wraps.left)
  | no p ↦ ⊎_elim (λ e. absurd (n (sym h.second ∙ e))) (λ l. inl (subst (λ (k : ℕ). k < wrapper g) h.second l)) (acc.seconds r (omega arith) h.there)
]

-- NOTHING FOLLOWS W OR THE END MARK. So a table with everything in it is no follow table.
pub outer_unfollowed : {g : Grammar} {x y : ℕ} → Accepted g → wrapper g ≤ x → Follows g x y → ⊥
outer_unfollowed acc l (beside h n p) = let b = first-low acc h in omega arith
outer_unfollowed acc l (last h n p) =
    ⊎_elim (λ b. omega arith) (λ o. let e = o.1 in outer_unfollowed acc (omega arith) p) (second-low acc h n)
outer_unfollowed acc l (only h p) = let b = first-low acc h in omega arith
