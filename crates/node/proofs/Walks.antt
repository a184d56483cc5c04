-- The walk, read by read.
use Rattle.std.proofs.Common.{ℕ, zero, suc, ◌+◌, ◌<◌, ◌≡◌, refl, ap, ◌∙◌, List, arith, length}
use Rattle.node.specs.Answers.{Answer, answer, refused, done, no_node, node, end, nothing, position, nodes}
use Rattle.node.specs.Reading.{read_units}
use Rattle.node.specs.Walking.{go_on, walk_on, walk_from}
use Rattle.node.specs.declared.Node.{Node}
use Rattle.node.proofs.Exact.{Onward, read_onward}

-- Two ways to go on that agree behind every node that is read agree.
same_onward :
    (s : List ℕ) (p count : ℕ) (r : Answer) (f g : ℕ → Answer) → read_units s p ≡ r → ((q : ℕ) → Onward s p q → f q ≡ g q)
    → go_on r f count p ≡ go_on r g count p
same_onward s p count (answer number (node n q)) f g e same = same q (read_onward s p n q e)
same_onward s p count (answer number nothing) f g e same = refl
same_onward s p count (answer number (position q)) f g e same = refl
same_onward s p count (answer number end) f g e same = refl
same_onward s p count (answer number (nodes k q)) f g e same = refl
same_onward s p count (refused number place values) f g e same = refl

-- More reads than there are units from p on change nothing.
pub enough :
    (f g : ℕ) (s : List ℕ) (p count : ℕ) → length s < f + p → length s < g + p → 0 < f → 0 < g
    → walk_on f s p count ≡ walk_on g s p count
unfolding walk_on
enough zero g s p count a b c d = absurd (omega (arith, c))
enough (suc f) zero s p count a b c d = absurd (omega (arith, d))
enough (suc f) (suc g) s p count a b c d =
    same_onward s p count (read_units s p) (λ q. walk_on f s q (count + 1)) (λ q. walk_on g s q (count + 1)) refl
    (λ q o. enough f g s q (count + 1) (omega (arith, o.onward)) (omega (arith, o.onward)) (omega (arith, o.onward, o.inside))
    (omega (arith, o.onward, o.inside)))

-- A node that is read is counted, and the walk goes on behind it.
pub walk-node :
    {k : ℕ} (s : List ℕ) (p : ℕ) (n : Node) (q count : ℕ) → read_units s p ≡ answer k (node n q)
    → walk_from s p count ≡ walk_from s q (count + 1)
unfolding walk_on
walk-node s p n q count e =
    let o : Onward s p q = read_onward s p n q e in
    ap (λ r. go_on r (λ b. walk_on (length s) s b (count + 1)) count p) e
    ∙ enough (length s) (suc (length s)) s q (count + 1) (omega (arith, o.onward)) (omega (arith, o.onward))
    (omega (arith, o.onward, o.inside)) (omega arith)

-- At the end the walk stops with 0, at what is no node with 12 and its unit.
pub walk_end : (s : List ℕ) (p count : ℕ) → read_units s p ≡ answer done end → walk_from s p count ≡ answer done (nodes count p)
unfolding walk_on
walk_end s p count e = ap (λ r. go_on r (λ b. walk_on (length s) s b (count + 1)) count p) e

pub walk-fault :
    (s : List ℕ) (p count unit : ℕ) → read_units s p ≡ refused no_node unit nothing
    → walk_from s p count ≡ refused no_node unit (nodes count p)
unfolding walk_on
walk-fault s p count unit e = ap (λ r. go_on r (λ b. walk_on (length s) s b (count + 1)) count p) e
