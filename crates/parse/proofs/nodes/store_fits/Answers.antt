-- `nodes::store_fits` meets its contract: the marks are the heads met, so a handle is marked where it is one.
use lib.ListN.{length-replicate}
use Prim.Native.Nat.{ℕ}
use Rattle.laws.proofs.Lists.{zeros_word}
use Rattle.parse.specs.inner.Parts.{head_words}
use Rattle.parse.proofs.nodes.store_fits.Goals as goal

pub mark_heads-requires : goal.mark_heads-requires
mark_heads-requires c =
    (c.requires.1, record { long = length-replicate {A = ℕ} head_words 0; zero = zeros_word head_words })
