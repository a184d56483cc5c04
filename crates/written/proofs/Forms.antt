-- Of bytes of the written form: left sides and the start symbol are nonterminals, and no symbol is T+M or above.
use mathlib.Core.Path.{subst}
use mathlib.Core.List.{List}
use Prim.Native.Nat.{ℕ, ◌<◌}
use lib.ListN.{get_or}
use Rattle.written.specs.Lists.{Each}
use Rattle.written.specs.Lists.Each.{end, and}
use Rattle.written.specs.Written.{WrittenRule, Writes, no_written}
use Rattle.written.specs.Form.{rules_at, written_of, end_in, RulesStand, Formed}
use Rattle.written.specs.Form.RulesStand.{no_more, one_more}
use Rattle.written.specs.Refusals.{Nonterminal}
use Rattle.written.proofs.Lists.{each_at}
use Rattle.written.proofs.Knowing.{Lawful}

-- A rule of nonterminals and symbols.
record Lawly (bytes : List ℕ) (r : WrittenRule) : Type 0 where
  left : Nonterminal (written_of bytes) r.left
  symbols : Each (λ (x : ℕ). x < end_in bytes) r.right

stand-each : (bytes : List ℕ) {at count : ℕ} → RulesStand bytes at count → Each (Lawly bytes) (rules_at bytes at count)
unfolding rules_at
stand-each bytes (no_more e) = end
stand-each bytes (one_more s r) = and (record { left = record { no_token_lem = s.no_token_lem; within = s.nonterminal }; symbols = s.symbols }) (stand-each bytes r)

pub formed_lawful : (bytes : List ℕ) → Formed bytes → Lawful (written_of bytes)
formed_lawful bytes f = record {
  start = record { no_token_lem = f.no_token_lem; within = f.nonterminal };
  left = λ h. subst (Nonterminal (written_of bytes)) h.left (one h).left;
  symbols = λ h. subst (Each (λ (x : ℕ). x < end_in bytes)) h.right (one h).symbols;
}
  where
    one : {r a : ℕ} {ω : List ℕ} → Writes (written_of bytes) r a ω → Lawly bytes (get_or (written_of bytes).rules r no_written)
    one {r} h = each_at (written_of bytes).rules no_written r (stand-each bytes f.rules) h.there
