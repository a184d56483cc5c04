-- The file stands in the output.
use Rattle.std.proofs.Common.{◌≡◌, refl, sym, List, ℕ, ◌≤◌, length, drop, length-append, arith}
use Rattle.std.proofs.lemmas.List.{length-take-le}
use Rattle.std.specs.Prelude.{Result, Ok, Err}
use Rattle.io.specs.Counts.{IsPrefixLen}
use Rattle.written.specs.Bytes.{bytes_of, file_length}
use Rattle.written.specs.Answers.{Answer, Translates, translation}
use Rattle.written.proofs.Filing.{bytes-long}
use Rattle.translation.specs.declared.Translated.{Translated}
use Rattle.translation.specs.declared.Refusal.{Refusal}
use Rattle.translation.specs.Answers.{answer_of}
use Rattle.translate.specs.Lines.{file_of}

-- A count within a list counts its front.
counts : (n : ℕ) (xs : List ℕ) → n ≤ length xs → IsPrefixLen n xs
counts n xs fits = (fits, sym (length-take-le n xs fits))

-- The file is no longer than the output.
abbrev length_in : Answer → ℕ
length_in (Answer.refused n) = 0
length_in (Answer.done l e) = l

within : {bytes before after : List ℕ} {a : Answer} → Translates bytes before a after → length_in a ≤ length after
within (Translates.malformed n) = omega arith
within (Translates.circular f c) = omega arith
within (Translates.barren f s b) = omega arith
within (Translates.unreachable f s p u) = omega arith
within (Translates.no_sentence f s p r n) = omega arith
within (Translates.no_room f s t n) = omega arith
within {before = before} (Translates.translates f s t fits) =
    let long = bytes-long (translation _ t) in
    omega (arith, long, length-append (bytes_of (translation _ t)) (drop (file_length (translation _ t)) before))

file_of_lem : (told : Result Translated Refusal) → file_of told ≡ length_in (answer_of told)
file_of_lem (Ok translated) = refl
file_of_lem (Err refusal) = refl

pub file-within : {bytes before after : List ℕ} (told : Result Translated Refusal) (n : ℕ) → n ≡ file_of told → Translates bytes before (answer_of told) after → IsPrefixLen n after
file-within {after = after} told n e t = counts n after (let w = within t in let f = file_of_lem told in omega arith)
