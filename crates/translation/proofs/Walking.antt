-- Walks over the rules.
use Rattle.std.proofs.Common.{◌≡◌, sym, ap, ◌∙◌, List, [], ◌∷◌}
use Rattle.written.specs.Written.{WrittenRule}
use Rattle.translation.specs.inner.Marks.{walk}

-- What the rules that are left make of the state so far all rules make of what it began with.
module _ {S : Type 0} (step : S → WrittenRule → S) (total : S) where
  pub record Come (rest : List WrittenRule) (s : S) : Type 0 where
    pub same : walk step s rest ≡ total

  pub come_begins : {rest all : List WrittenRule} (s : S) → rest ≡ all → walk step s all ≡ total → Come rest s
  come_begins s e h = record { same = ap (walk step s) e ∙ h }

  -- One rule on.
  pub come_on : {rest more : List WrittenRule} {r : WrittenRule} (s now : S) → Come rest s → rest ≡ r ∷ more → now ≡ step s r → Come more now
  unfolding walk
  come_on {rest} {more} s now c e k = record { same = ap (λ (x : S). walk step x more) k ∙ sym (ap (walk step s) e) ∙ c.same }

  -- The end.
  pub come_ends : {rest : List WrittenRule} (s : S) → Come rest s → rest ≡ [] → s ≡ total
  unfolding walk
  come_ends s c e = sym (ap (walk step s) e) ∙ c.same
