-- What count and tree answer, in a host's words.
use Rattle.std.specs.Prelude.{◌≡◌, List, ℕ}
use Rattle.trees.specs.Answers.{Answer, answer, Values, nothing, position, trees, words, Counts, Tells}

abbrev pub number_in : Answer → ℕ
number_in (answer number values) = number

abbrev pub values_in : Answer → Values
values_in (answer number values) = values

-- The number of trees where the values have one; else the word stays.
abbrev pub trees_or : ℕ → Values → ℕ
trees_or word (trees n) = n
trees_or word nothing = word
trees_or word (position s) = word
trees_or word (words n) = word

-- The position of a 12; else the word stays.
abbrev pub place_or : ℕ → Values → ℕ
place_or word (position s) = s
place_or word nothing = word
place_or word (trees n) = word
place_or word (words n) = word

-- How many words were written, or are needed; else 0.
abbrev pub count_in : Values → ℕ
count_in (words n) = n
count_in nothing = 0
count_in (position s) = 0
count_in (trees n) = 0

-- Count's answer, in the host's words.
pub record CountsIn (store : List ℕ) (h trees-before place-before number trees place : ℕ) : Type 0 where
  pub answer : Answer
  pub counts : Counts store h answer
  pub number_is : number ≡ number_in answer
  pub trees_is : trees ≡ trees_or trees-before (values_in answer)
  pub place_is : place ≡ place_or place-before (values_in answer)

-- Tree's answer, in the host's words, and the words that it leaves.
pub record TellsIn (store : List ℕ) (h k : ℕ) (before after : List ℕ) (place-before number count place : ℕ) : Type 0 where
  pub answer : Answer
  pub tells : Tells store h k before answer after
  pub number_is : number ≡ number_in answer
  pub count_is : count ≡ count_in (values_in answer)
  pub place_is : place ≡ place_or place-before (values_in answer)
