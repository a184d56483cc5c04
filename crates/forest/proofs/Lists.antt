-- Members of joined lists and of pairs, and what joining does to lists in order.
use Rattle.std.proofs.Common.{◌≡◌, refl, subst, List, [], ◌∷◌, ◌++◌, ⊎_elim}
use mathlib.Core.List.{map, flat_map}
use mathlib.Core.List.Memᴰ.{append_left as member-left}
use mathlib.Core.List.Memᴰ.{cast as member-same}
use mathlib.Core.List.Memᴰ.{head as here}
use mathlib.Core.List.Memᴰ.{tail as there}
use mathlib.Core.List.{Memᴰ as Member}
use mathlib.Core.List.Memᴰ.{append_cases as member-either}
use mathlib.Core.List.Memᴰ.{append_right as member_right}
use mathlib.Core.List.Memᴰ.{map as map-member}
use mathlib.Core.List.Memᴰ.{of_map as member-map}
use Rattle.forest.specs.Lists.{Ordered, none, more, Once}
use Rattle.forest.specs.Forests.{pairs}

-- A member that another was made of.
pub record Of {A B : Type 0} (f : A → List B) (l : List A) (b : B) : Type 0 where
  pub from : A
  pub member : Member from l
  pub made : Member b (f from)

-- The members of joined lists are those made of members.
pub joined_member : {A B : Type 0} (f : A → List B) {a : A} {b : B} {l : List A} → Member a l → Member b (f a) → Member b (flat_map f l)
unfolding flat_map
joined_member f {b = b} (here {xs = l} e) m = member-left (flat_map f l) (subst (λ c. Member b (f c)) e m)
joined_member f (there {x = y} h) m = member_right (f y) (joined_member f h m)

pub member_joined : {A B : Type 0} (f : A → List B) {b : B} (l : List A) → Member b (flat_map f l) → Of f l b
unfolding flat_map
member_joined f [] h = elim h [ ]
member_joined f (x ∷ l) h =
    ⊎_elim
    (λ m. record { from = x; member = here refl; made = m })
    (λ m. let o = member_joined f l m in record { from = o.from; member = there o.member; made = o.made })
    (member-either (f x) h)

-- The two that a pair was made of.
pub record Paired {A B C : Type 0} (f : A → B → C) (l : List A) (m : List B) (c : C) : Type 0 where
  pub first : A
  pub second : B
  pub in_first : Member first l
  pub in_second : Member second m
  pub is : f first second ≡ c

-- The members of pairs are those made of a member and a member.
pub pairs_member : {A B C : Type 0} (f : A → B → C) {x : A} {y : B} {l : List A} {m : List B} → Member x l → Member y m → Member (f x y) (pairs f l m)
pairs_member f {x = x} {m = m} h k = joined_member (λ u. map (f u) m) h (map-member (f x) k)

pub member_pairs : {A B C : Type 0} (f : A → B → C) {c : C} (l : List A) (m : List B) → Member c (pairs f l m) → Paired f l m c
member_pairs f l m h =
    let o = member_joined (λ u. map (f u) m) l h in
    let i = member-map (f o.from) m o.made in
    record { first = o.from; second = i.0; in_first = o.member; in_second = i.1; is = i.2 }

-- Two lists in order, one behind the other, where each of the first stands so to each of the second.
pub ordered-append : {A : Type 0} {R : A → A → Type 0} {l m : List A} → Ordered R l → Ordered R m
    → ((x y : A) → Member x l → Member y m → R x y) → Ordered R (l ++ m)
ordered-append none o across = o
ordered-append (more {x = x} {l = l} first rest) o across =
    more (λ y h. ⊎_elim (first y) (across x y (here refl)) (member-either l h)) (ordered-append rest o (λ x y a b. across x y (there a) b))

-- What is made of each, where making keeps the order.
pub ordered-map : {A B : Type 0} {R : A → A → Type 0} {S : B → B → Type 0} (f : A → B) {l : List A}
    → ((x y : A) → Member x l → Member y l → R x y → S (f x) (f y)) → Ordered R l → Ordered S (map f l)
ordered-map f keeps none = none
ordered-map {S = S} f keeps (more {x = x} {l = l} first rest) =
    more
    (λ b h. let o = member-map f l h in subst (S (f x)) o.2 (keeps x o.0 (here refl) (there o.1) (first o.0 o.1)))
    (ordered-map f (λ x y m n. keeps x y (there m) (there n)) rest)

-- Joined lists are in order where each is, and each of an earlier one stands so to each of a later.
pub ordered-joined : {A B : Type 0} {R : A → A → Type 0} {S : B → B → Type 0} (f : A → List B) {l : List A} → Ordered R l
    → ((a : A) → Member a l → Ordered S (f a))
    → ((a c : A) (b d : B) → Member a l → Member c l → R a c → Member b (f a) → Member d (f c) → S b d) → Ordered S (flat_map f l)
unfolding flat_map
ordered-joined f none all across = none
ordered-joined f (more {x = x} {l = l} first rest) all across =
    ordered-append (all x (here refl)) (ordered-joined f rest (λ a m. all a (there m)) (λ a c b d m n. across a c b d (there m) (there n)))
    (λ b d h m.
    let o = member_joined f l m in
    across x o.from b d (here refl) (there o.member) (first o.from o.member) h o.made)

-- So are pairs: where the firsts are, and where the seconds are.
pub ordered-pairs : {A B C : Type 0} {R : A → A → Type 0} {S : B → B → Type 0} {T : C → C → Type 0} (f : A → B → C) {l : List A} {m : List B}
    → ((x u : A) (y v : B) → R x u → T (f x y) (f u v)) → ((x : A) (y v : B) → S y v → T (f x y) (f x v)) → Ordered R l → Ordered S m
    → Ordered T (pairs f l m)
ordered-pairs {T = T} f {m = m} firsts seconds o p =
    ordered-joined (λ x. map (f x) m) o (λ x h. ordered-map (f x) (λ y v i j. seconds x y v) p)
    (λ x u b d h k r i j.
    let b-made = member-map (f x) m i in
    let d-made = member-map (f u) m j in
    subst (λ c. T c d) b-made.2 (subst (T (f x b-made.0)) d-made.2 (firsts x u b-made.0 d-made.0 r)))

-- Nothing is twice in what a map that keeps all apart makes,
pub once-map : {A B : Type 0} (f : A → B) {l : List A} → ((x y : A) → Member x l → Member y l → f x ≡ f y → x ≡ y) → Once l → Once (map f l)
once-map f same o = ordered-map f (λ x y m n differ e. differ (same x y m n e)) o

-- in pairs that tell what they are made of,
pub once-pairs : {A B C : Type 0} (f : A → B → C) {l : List A} {m : List B} → ((x u : A) (y v : B) → f x y ≡ f u v → x ≡ u)
    → ((x u : A) (y v : B) → f x y ≡ f u v → y ≡ v) → Once l → Once m → Once (pairs f l m)
once-pairs f firsts seconds o p =
    ordered-pairs f (λ x u y v differ e. differ (firsts x u y v e)) (λ x y v differ e. differ (seconds x x y v e)) o p

-- and in joined lists, where none has anything twice and no two share a member.
pub once-joined : {A B : Type 0} (f : A → List B) {l : List A} → Once l → ((a : A) → Member a l → Once (f a))
    → ((a c : A) (b : B) → Member a l → Member c l → Member b (f a) → Member b (f c) → a ≡ c) → Once (flat_map f l)
once-joined f o all apart = ordered-joined f o all (λ a c b d m n differ h k e. differ (apart a c b m n h (member-same e k)))
