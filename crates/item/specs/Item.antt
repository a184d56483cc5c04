-- An item is three words: its origin, its rule, and the handle of its first symbol's node. Items are ordered by origin, then by rule.
use Rattle.std.specs.Prelude.{List, [], ◌∷◌, ℕ, ◌+◌, ◌*◌, ◌≤◌, length, get_or}
use Rattle.std.proofs.lemmas.List.Edits.{sets}
use Rattle.laws.specs.Records as records
use Rattle.item.specs.declared.Item.{Item as TheItem}

-- An item, as the code declares it.
abbrev pub Item : Type 0
Item = TheItem

-- The words of an item, in their order.
abbrev pub words_of : Item → List ℕ
words_of i = i.origin ∷ i.rule ∷ i.handle ∷ []

-- How many they are.
abbrev pub item_words : ℕ
item_words = 3

-- A list of items, held in words one behind another.
abbrev pub flat : List Item → List ℕ
flat its = records.flat words_of its

-- The item at a place of the words.
abbrev pub origin_at : List ℕ → ℕ → ℕ
origin_at words p = get_or words (item_words * p) 0

abbrev pub rule_at : List ℕ → ℕ → ℕ
rule_at words p = get_or words (item_words * p + 1) 0

abbrev pub handle_at : List ℕ → ℕ → ℕ
handle_at words p = get_or words (item_words * p + 2) 0

abbrev pub item_at : List ℕ → ℕ → Item
item_at words p = record { origin = origin_at words p; rule = rule_at words p; handle = handle_at words p }

-- The words have a place p: those of an item there are among them.
abbrev pub HasPlace : List ℕ → ℕ → Type 0
HasPlace words p = item_words * p + item_words ≤ length words

-- The words after an item was stored at place p.
abbrev pub stored : List ℕ → ℕ → Item → List ℕ
stored words p i = sets words (item_words * p) (words_of i)

-- The order by origin, then rule, as the order of one number: a rule's word is below 4294967296, that is 2 ^ 32.
abbrev pub key_of : Item → ℕ
key_of i = 4294967296 * i.origin + i.rule

abbrev pub key_at : List ℕ → ℕ → ℕ
key_at words p = key_of (item_at words p)
