-- Members and "nothing twice" by counts: what the laws of a heap say, read as what the forest asks.
use Rattle.std.proofs.Common.{◌≡◌, refl, sym, ◌∙◌, ap, Bool, true, false, List, [], ◌∷◌, ◌+◌, ◌≤◌, ◌<◌, arith, length}
use mathlib.Core.List.Memᴰ.{cast as member-same}
use mathlib.Core.List.Memᴰ.{head as here}
use mathlib.Core.List.Memᴰ.{tail as there}
use mathlib.Core.List.{Memᴰ as Member}
use Rattle.laws.specs.Counts.{count, once}
use Rattle.laws.proofs.Tests.{either_way}
use Rattle.forest.specs.Lists.{none, more, Once}

-- A test that tells whether two are the same.
pub record Telling (A : Type 0) : Type 0 where
  pub same : A → A → Bool
  pub itself : (a : A) → same a a ≡ true
  pub equal : (a b : A) → same a b ≡ true → a ≡ b

module _ {A : Type 0} where
  -- What all members pass is passed as often as there are members,
  pub count_every : (test : A → Bool) (l : List A) → ((a : A) → Member a l → test a ≡ true) → count test l ≡ length l
  unfolding count
  count_every test [] all = refl
  count_every test (a ∷ l) all = omega (arith, ap once (all a (here refl)), count_every test l (λ b m. all b (there m)))

  -- and what none passes never.
  pub count_none : (test : A → Bool) (l : List A) → ((a : A) → Member a l → test a ≡ false) → count test l ≡ 0
  unfolding count
  count_none test [] all = refl
  count_none test (a ∷ l) all = omega (arith, ap once (all a (here refl)), count_none test l (λ b m. all b (there m)))

  -- A member that passes is counted.
  pub member_counts : (test : A → Bool) {a : A} {l : List A} → Member a l → test a ≡ true → 0 < count test l
  unfolding count
  member_counts test (here e) passes = omega (arith, ap (λ b. once (test b)) (sym e) ∙ ap once passes)
  member_counts test (there m) passes = omega (arith, member_counts test m passes)

  module _ (tell : Telling A) where
    -- A member is counted, and what is counted is a member.
    pub member_counted : {a : A} {l : List A} → Member a l → 0 < count (tell.same a) l
    member_counted {a} m = member_counts (tell.same a) m (tell.itself a)

    pub counted_member : (a : A) (l : List A) → 0 < count (tell.same a) l → Member a l
    unfolding count
    counted_member a [] some = absurd (omega arith)
    counted_member a (b ∷ l) some =
        let further : 0 < count (tell.same a) l → Member a l = counted_member a l in
        either_way (tell.same a b) (λ yes. here (tell.equal a b yes)) (λ no. there (further (omega (arith, ap once no))))

    -- Nothing is twice where each is counted once at the most, and the other way round.
    pub once-counted : {l : List A} → Once l → (a : A) → count (tell.same a) l ≤ 1
    unfolding count
    once-counted none a = omega arith
    once-counted (more {x = x} {l = l} first rest) a =
        let further : count (tell.same a) l ≤ 1 = once-counted rest a in
        either_way (tell.same a x)
        (λ yes.
        let absent : count (tell.same a) l ≡ 0 =
        count_none (tell.same a) l
        (λ b m. either_way (tell.same a b) (λ is. absurd (first b m (sym (tell.equal a x yes) ∙ tell.equal a b is))) (λ no. no)) in
        omega (arith, ap once yes))
        (λ no. omega (arith, ap once no))

    pub counted-once : (l : List A) → ((a : A) → count (tell.same a) l ≤ 1) → Once l
    unfolding count
    counted-once [] few = none
    counted-once (x ∷ l) few =
        more
        (λ (y : A) (m : Member y l) (same : x ≡ y).
        let one : 0 < count (tell.same x) l = member_counted {a = x} {l = l} (member-same same m) in
        omega (arith, few x, ap once (tell.itself x)))
        (counted-once l (λ a. omega (arith, few a)))

-- Entries popped one by one, as the laws of a heap count them.
pub data Pops {A : Type 0} : List A → List A → List A → Type 0 where
  stop : {queue : List A} → Pops queue [] queue
  pop : {queue next rest out : List A} {e : A} → ((test : A → Bool) → count test queue ≡ count test next + once (test e)) → Pops next out rest
      → Pops queue (e ∷ out) rest

pub pops_count : {A : Type 0} {queue out rest : List A} → Pops queue out rest → (test : A → Bool) → count test queue ≡ count test rest + count test out
unfolding count
pops_count Pops.stop test = omega arith
pops_count (Pops.pop counts others) test = omega (arith, counts test, pops_count others test)
