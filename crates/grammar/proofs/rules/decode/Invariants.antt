-- `grammar::rules::decode` meets its contract. The invariant, `Decoding`: the rules passed stand in the words.
use Rattle.std.specs.Prelude.{◌≡◌}
use Rattle.grammar.specs.File.{symbols_of, tokens_of}
use Rattle.grammar.proofs.Decoding.{Decoding}
use Rattle.grammar.proofs.rules.decode.Given as goal

abbrev pub invariant-loop-r : goal.invariant-loop-r
invariant-loop-r l = Decoding l.file l.grammar.rules l.r × (l.grammar.symbols ≡ symbols_of l.file) × (l.grammar.tokens ≡ tokens_of l.file)
