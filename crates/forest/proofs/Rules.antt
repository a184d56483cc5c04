-- What the rules of an accepted grammar tell of a tree's root.
use Rattle.std.proofs.Common.{◌≡◌, sym, ◌∙◌, ap, subst, ℕ, ◌≤◌}
use Rattle.grammar.specs.Rules.{Grammar, Says, rule_at}
use Rattle.grammar.specs.Accepted.{Accepted}
use Rattle.grammar.proofs.Facts.{left-high}

-- The left sides of rules are no tokens.
pub no_token_lem : {g : Grammar} {r x y z : ℕ} → Accepted g → Says g r x y z → g.tokens ≤ x
no_token_lem {g} {r} acc h = subst (λ n. g.tokens ≤ n) h.left (left-high g acc r h.there)

-- One rule has one first symbol and one second.
pub same_first : {g : Grammar} {r q x y z u v w : ℕ} → r ≡ q → Says g r x y z → Says g q u v w → y ≡ v
same_first {g} e p q = sym p.first ∙ ap (λ n. (rule_at g n).first) e ∙ q.first

pub same_second : {g : Grammar} {r q x y z u v w : ℕ} → r ≡ q → Says g r x y z → Says g q u v w → z ≡ w
same_second {g} e p q = sym p.second ∙ ap (λ n. (rule_at g n).second) e ∙ q.second
