-- Rules in words: searched, and one more stored behind the others.
use Rattle.std.proofs.Common.{◌≡◌, refl, sym, ap, subst, ◌∙◌, Bool, true, false, ◌||◌, List, [], ◌∷◌, ◌++◌, ℕ, zero, suc, ◌+◌, ◌-◌, ◌≤◌, ◌<◌, arith, length, length-append, Result, Ok, Err, IfOk, IfErr}
use Rattle.laws.proofs.Decides.{true_false, false_true}
use Rattle.grammar.specs.Rules.{Rule}
use Rattle.grammar.specs.Accepted.{max_rules}
use Rattle.grammar.specs.inner.Decoded.{rules_behind, rules_in}
use Rattle.written.specs.Split.{given}
use Rattle.written.specs.Translation.{equal, has_rule, listing}
use Rattle.written.proofs.Listing.{adding-there, adding-new, listing_grows, listing-append, or_first}
use Rattle.translation.specs.inner.Lists.{rule_in, Lists}

-- The search: the rules from `r` on decide.
pub record Seeking (words : List ℕ) (count : ℕ) (q : Rule) (r : ℕ) : Type 0 where
  pub few : r ≤ count
  pub same : has_rule (rules_behind words r (count - r)) q ≡ has_rule (rules_in words count) q

pub behind-next : (words : List ℕ) (r k : ℕ) → 0 < k → rules_behind words r k ≡ rule_in words r ∷ rules_behind words (r + 1) (k - 1)
unfolding rules_behind
behind-next words r zero h = absurd (omega arith)
behind-next words r (suc k) h = let e : k ≡ suc k - 1 = omega arith in ap (λ (n : ℕ). rule_in words r ∷ rules_behind words (r + 1) n) e

module _ (words : List ℕ) (count : ℕ) (q : Rule) (r : ℕ) (s : Seeking words count q r) (more : r < count) {answer : Bool} (is : answer ≡ equal (rule_in words r) q) where
  first-rule : (equal (rule_in words r) q || has_rule (rules_behind words (r + 1) (count - r - 1)) q) ≡ has_rule (rules_in words count) q
  unfolding has_rule
  first-rule = sym (ap (λ (l : List Rule). has_rule l q) (behind-next words r (count - r) (omega arith))) ∙ s.same

  pub seek_on : answer ≡ false → Seeking words count q (r + 1)
  seek_on e =
      let step : count - (r + 1) ≡ count - r - 1 = omega arith in
      record {
        few = omega arith;
        same = ap (λ (k : ℕ). has_rule (rules_behind words (r + 1) k) q) step
            ∙ sym (ap (λ (t : Bool). t || has_rule (rules_behind words (r + 1) (count - r - 1)) q) (sym is ∙ e)) ∙ first-rule;
      }

  pub seek_found : answer ≡ true → true ≡ has_rule (rules_in words count) q
  seek_found e = sym (or_first (has_rule (rules_behind words (r + 1) (count - r - 1)) q) (sym is ∙ e)) ∙ first-rule

pub seek_ends : (words : List ℕ) (count : ℕ) (q : Rule) (r : ℕ) → Seeking words count q r → count ≤ r → false ≡ has_rule (rules_in words count) q
unfolding has_rule rules_behind
seek_ends words count q r s h = let e : count - r ≡ 0 = omega arith in sym (ap (λ (k : ℕ). has_rule (rules_behind words r k) q) e) ∙ s.same

-- As many rules as the count says; the last one; and rules that a store does not touch.
pub behind-count : (words : List ℕ) (r k : ℕ) → length (rules_behind words r k) ≡ k
unfolding rules_behind
behind-count words r zero = refl
behind-count words r (suc k) = ap suc (behind-count words (r + 1) k)

-- A rule that the list has already.
pub lists-there : {T E : Type 0} {t : T} (before : List Rule) (q : Rule) {answer : Bool} → answer ≡ has_rule before q → answer ≡ true → Lists {T = T} {E = E} before (Ok t) before (q ∷ [])
unfolding listing
lists-there before q e y = record { listed = sym (adding-there before q (sym e ∙ y)); full = tt }

-- One that it does not have, behind it; and one for which there is no room.
pub lists-pushed : {T E : Type 0} {t : T} (before after : List Rule) (q : Rule) {answer : Bool} → answer ≡ has_rule before q → answer ≡ false → after ≡ before ++ q ∷ []
    → Lists {T = T} {E = E} before (Ok t) after (q ∷ [])
unfolding listing
lists-pushed before after q e n p = record { listed = p ∙ sym (adding-new before q (sym e ∙ n)); full = tt }

pub lists-no_room : {T E : Type 0} {f : E} (words : List ℕ) (n : ℕ) (q : Rule) {answer : Bool} → max_rules ≤ n + 1 → answer ≡ has_rule (rules_in words n) q → answer ≡ false
    → Lists {T = T} {E = E} (rules_in words n) (Err f) (rules_in words n) (q ∷ [])
unfolding listing
lists-no_room words n q k e y = record {
  listed = tt;
  full = let one = ap length (adding-new (rules_in words n) q (sym e ∙ y)) in
      let two = length-append (rules_in words n) (q ∷ []) in
      let three = behind-count words 0 n in
      omega arith;
}

-- Nothing more.
pub lists-nothing : {T E : Type 0} {t : T} (before l : List Rule) → l ≡ [] → Lists {T = T} {E = E} before (Ok t) before l
unfolding listing
lists-nothing before l e = record { listed = sym (ap (listing before) e); full = tt }

-- One after the other; and what comes behind a list that is too long.
pub lists_on : {T E U F : Type 0} {t : T} {r : Result U F} {before between after : List Rule} (x y : List Rule) → Lists {T = T} {E = E} before (Ok t) between x → Lists between r after y
    → Lists before r after (x ++ y)
lists_on {r = r} {before} {between} {after} x y p q =
    let e : listing between y ≡ listing before (x ++ y) = ap (λ (l : List Rule). listing l y) p.listed ∙ sym (listing-append before x y) in
    let z = from r e q in record { listed = z.0; full = z.1 }
  where
    from : {U F : Type 0} (r : Result U F) {l m after : List Rule} → listing l y ≡ m → Lists l r after y → IfOk r (λ _. after ≡ m) × IfErr r (λ _. max_rules ≤ length m)
    from (Ok u) e q = (q.listed ∙ e, tt)
    from (Err f) e q = (tt, let h = q.full in let k = ap length e in omega arith)

pub lists-stops : {T E U F : Type 0} {f : E} {g : F} {before after : List Rule} (x y : List Rule) → Lists {T = T} {E = E} before (Err f) after x → Lists {T = U} {E = F} before (Err g) after (x ++ y)
lists-stops {before = before} x y p = record {
  listed = tt;
  full = let h = p.full in let e = ap length (listing-append before x y) in let l = listing_grows (listing before x) y in omega arith;
}

-- A rule that is given or not.
pub lists_given_not : {T E : Type 0} {t : T} (before : List Rule) (yes : Bool) (l : List Rule) → yes ≡ false → Lists {T = T} {E = E} before (Ok t) before (given yes l)
unfolding given
lists_given_not before true l e = absurd (true_false e)
lists_given_not before false l e = lists-nothing before [] refl

pub lists-given : {T E : Type 0} {r : Result T E} (before after : List Rule) (yes : Bool) (l : List Rule) → yes ≡ true → Lists before r after l → Lists before r after (given yes l)
unfolding given
lists-given before after true l e p = p
lists-given before after false l e p = absurd (false_true e)

-- What is listed behind no rule.
pub lists_from : {T E : Type 0} {r : Result T E} {none before after more : List Rule} → before ≡ none → Lists before r after more → Lists none r after more
lists_from {r = r} {after = after} {more = more} e p = subst (λ (l : List Rule). Lists l r after more) e p
