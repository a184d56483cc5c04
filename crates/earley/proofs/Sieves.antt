-- What a step lets through when the token behind its position is known: completed symbols that it can follow, and items that wait for a
-- symbol which it can begin. The chart theory needs four closures of the two, and nothing else of a hint.
use mathlib.Core.Path.{◌≡◌, ◌∙◌, ap, subst}
use mathlib.Core.List.Memᴰ.{eq_of_singleton as only}
use mathlib.Core.List.{List, [], ◌∷◌, ◌++◌, Memᴰ as Member}
use mathlib.Core.Logic.{◌≢◌}
use Prim.Native.Nat.{ℕ, ◌≤◌, ◌<◌}
use native.Mathlib.Omega.{arith}
use lib.ListN.{length, get_or, length-append, get_or-append}
use lib.Seq.{get_or-append_seam}
use Rattle.grammar.specs.Rules.{Grammar, Says, none}
use Rattle.grammar.specs.Prediction.{Reaches, here as itself, by_first as further}
use Rattle.grammar.specs.Following.{Follows}
use Rattle.earley.specs.Positions.{Positions}
use Rattle.earley.proofs.Spans.{Span}

-- Which symbols may be completed, and which may be waited for.
pub record Sieve (g : Grammar) (passes waits : ℕ → Type 0) : Type 0 where
  pub by_first : {r x y z : ℕ} → Says g r x y z → waits y → waits x
  pub by_second : {r x y z : ℕ} → Says g r x y z → z ≢ none → waits z → passes y
  pub by_last : {r x y z : ℕ} → Says g r x y z → z ≢ none → passes x → passes z
  pub by_only : {r x y : ℕ} → Says g r x y none → passes x → passes y

-- Every symbol.
pub data Any : ℕ → Type 0 where
  any : {x : ℕ} → Any x

-- With no hint everything passes.
pub unhinted : {g : Grammar} → Sieve g Any Any
unhinted = record { by_first = λ _ _. any; by_second = λ _ _ _. any; by_last = λ _ _ _. any; by_only = λ _ _. any }

-- With the hint `y`: what `y` can follow, and what it can begin.
pub hinted : {g : Grammar} (y : ℕ) → Sieve g (λ x. Follows g x y) (λ x. Reaches g x y)
hinted y = record {
  by_first = λ h m. further h m;
  by_second = λ h n m. Follows.beside h n m;
  by_last = λ h n f. Follows.last h n f;
  by_only = λ h f. Follows.only h f;
}

-- `x` can begin with one of the kinds.
pub record Meets (g : Grammar) (ks : List ℕ) (x : ℕ) : Type 0 where
  pub kind : ℕ
  pub of : Member kind ks
  pub reaches : Reaches g x kind

-- A kind itself does,
pub kind_meets : {g : Grammar} {ks : List ℕ} {t : ℕ} → Member t ks → Meets g ks t
kind_meets m = record { kind = _; of = m; reaches = itself }

-- and so does a left side whose rule's first symbol does.
pub meets_first : {g : Grammar} {ks : List ℕ} {r x y z : ℕ} → Says g r x y z → Meets g ks y → Meets g ks x
meets_first h m = record { kind = m.kind; of = m.of; reaches = further h m.reaches }

-- What `x` has to begin with where it stands at `p`: a kind of the position that was accepted there, or, at the end, what the latest set
-- waits for.
pub record Wanted (g : Grammar) (a : Positions) (waits : ℕ → Type 0) (x p : ℕ) : Type 0 where
  pub inside : p < length a → Meets g (get_or a p []) x
  pub behind : p ≡ length a → waits x

-- A span begins with a kind of the position where it stands.
pub span_begins : {g : Grammar} {a : Positions} {x i j : ℕ} → Span g a x i j → Meets g (get_or a i []) x
span_begins (Span.token h l m s) = kind_meets m
span_begins (Span.unary r d) = meets_first r (span_begins d)
span_begins (Span.binary r n d e) = meets_first r (span_begins d)

-- The position may come: whatever begins with one of its kinds is waited for.
pub record Due (g : Grammar) (waits : ℕ → Type 0) (ks : List ℕ) : Type 0 where
  pub fits : {x : ℕ} → Meets g ks x → waits x

-- With no hint every position may come, and with the hint `y` that token alone.
pub any-due : {g : Grammar} {ks : List ℕ} → Due g Any ks
any-due = record { fits = λ _. any }

pub hint_due : {g : Grammar} (y : ℕ) → Due g (λ x. Reaches g x y) (y ∷ [])
hint_due {g} y = record { fits = λ {x} m. subst (Reaches g x) (only m.of) m.reaches }

module _ {g : Grammar} {a : Positions} {waits : ℕ → Type 0} {ks : List ℕ} (due : Due g waits ks) where
  -- Of what begins with a kind of position `p`, of the positions and one more.
  begins_wanted : {x p : ℕ} → Meets g (get_or (a ++ ks ∷ []) p []) x → Wanted g a waits x p
  begins_wanted {x} {p} m = record {
    inside = λ l. subst (λ (l : List ℕ). Meets g l x) (get_or-append a (ks ∷ []) [] p l) m;
    behind = λ e. due.fits (subst (λ (l : List ℕ). Meets g l x) (ap (λ n. get_or (a ++ ks ∷ []) n []) e ∙ get_or-append_seam a ks [] []) m);
  }

  -- What spans to behind the position is wanted where it begins.
  pub span_wanted : {x q j : ℕ} → Span g (a ++ ks ∷ []) x q j → Wanted g a waits x q
  span_wanted s = begins_wanted (span_begins s)

  -- And so is the left side of a rule whose first symbol does.
  pub first_wanted : {r x y z q j : ℕ} → Says g r x y z → Span g (a ++ ks ∷ []) y q j → Wanted g a waits x q
  first_wanted h s = begins_wanted (meets_first h (span_begins s))

  -- What is wanted among more positions was wanted before.
  pub wanted_before : {waits' : ℕ → Type 0} {x p : ℕ} → p ≤ length a → Wanted g (a ++ ks ∷ []) waits' x p → Wanted g a waits x p
  wanted_before l w = begins_wanted (w.inside (omega (arith, length-append a (ks ∷ []))))
