-- What stays as it was: the length, and the words behind the table.
use Rattle.std.proofs.Common.{refl, ◌∙◌, List, ℕ, arith}
use Rattle.plain.specs.Table.{needed}
use Rattle.plain.specs.inner.Filling.{Room, Cleared, Kept}

pub kept_refl : {n : ℕ} {table : List ℕ} → Kept n table table
kept_refl = record { long = refl; behind = λ j l. refl }

pub kept_trans : {n : ℕ} {a b c : List ℕ} → Kept n a b → Kept n b c → Kept n a c
kept_trans h k = record { long = k.long ∙ h.long; behind = λ j l. k.behind j l ∙ h.behind j l }

pub kept_cleared : {n : ℕ} {a b : List ℕ} → Cleared (needed n) a b → Kept n a b
kept_cleared h = record { long = h.long; behind = h.behind }

pub kept-room : {n : ℕ} {a b : List ℕ} → Room n a → Kept n a b → Room n b
kept-room room h = record { few = room.few; there = omega (arith, room.there, h.long) }
