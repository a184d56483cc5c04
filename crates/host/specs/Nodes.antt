-- A node as five numbers: its kind, and its values.
use Rattle.std.specs.Prelude.{Option, Some, None, List, [], ◌∷◌, ℕ, get_or, eqb}
use Rattle.node.specs.Choice.{pick}
use Rattle.node.specs.declared.Node.{Node}
use Rattle.node.specs.declared.Node.TheVariants.{Sum, Product, NullingLeaf, Evaluated}
use Rattle.node.specs.Answers.{Answer, Values, answer, refused, value_unfit, nothing, position, node, end, nodes}
use Rattle.node.specs.Writing.{StoreOutcome, write_at}

-- The kinds, and the kind that stands for the end.
abbrev pub sum : ℕ
sum = 0

abbrev pub product : ℕ
product = 1

abbrev pub nulling_leaf : ℕ
nulling_leaf = 2

abbrev pub evaluated : ℕ
evaluated = 3

abbrev pub the_end : ℕ
the_end = 4

-- A Sum's count and nonterminal; a Product's action, left factor, whether there is a right factor, and that; a leaf's symbol.
unfoldable pub numbers_of : Node → List ℕ
numbers_of (Sum count nonterminal) = sum ∷ count ∷ nonterminal ∷ 0 ∷ 0 ∷ []
numbers_of (Product action left (Some right)) = product ∷ action ∷ left ∷ 1 ∷ right ∷ []
numbers_of (Product action left None) = product ∷ action ∷ left ∷ 0 ∷ 0 ∷ []
numbers_of (NullingLeaf symbol) = nulling_leaf ∷ symbol ∷ 0 ∷ 0 ∷ 0 ∷ []
numbers_of (Evaluated symbol) = evaluated ∷ symbol ∷ 0 ∷ 0 ∷ 0 ∷ []

-- A right factor is there where the fourth number is not 0.
unfoldable pub factor_by : ℕ → ℕ → Option ℕ
factor_by present right = pick (eqb present 0) None (Some right)

-- The node that five numbers tell; numbers that its kind has no use for say nothing.
unfoldable pub told_by : List ℕ → Option Node
told_by numbers =
    pick (eqb (get_or numbers 0 0) sum) (Some (Sum (get_or numbers 1 0) (get_or numbers 2 0)))
    (pick (eqb (get_or numbers 0 0) product)
    (Some (Product (get_or numbers 1 0) (get_or numbers 2 0) (factor_by (get_or numbers 3 0) (get_or numbers 4 0))))
    (pick (eqb (get_or numbers 0 0) nulling_leaf) (Some (NullingLeaf (get_or numbers 1 0)))
    (pick (eqb (get_or numbers 0 0) evaluated) (Some (Evaluated (get_or numbers 1 0))) None)))

-- Writing what five numbers tell. What is no node is unfit: 10, with the position asked for.
unfoldable pub write_told : List ℕ → ℕ → Option Node → StoreOutcome
write_told store p (Some n) = write_at store p n
write_told store p None = record { answer = refused value_unfit p nothing; store = store }

abbrev pub write_in : List ℕ → ℕ → List ℕ → StoreOutcome
write_in store p numbers = write_told store p (told_by numbers)

-- The number of an answer.
unfoldable pub number_in : Answer → ℕ
number_in (answer number values) = number
number_in (refused number place values) = number

-- The place of a refusal; else the word stays.
unfoldable pub place_or : ℕ → Answer → ℕ
place_or word (answer number values) = word
place_or word (refused number place values) = place

-- The position behind a node where the values have one; else the word stays.
unfoldable pub position_or : ℕ → Values → ℕ
position_or word (position q) = q
position_or word (node n q) = q
position_or word (nodes count q) = q
position_or word nothing = word
position_or word end = word

-- The node's numbers where the values have one; at the end the kind that stands for it; else the words stay.
unfoldable pub numbers_or : List ℕ → Values → List ℕ
numbers_or words (node n q) = numbers_of n
numbers_or words end = the_end ∷ 0 ∷ 0 ∷ 0 ∷ 0 ∷ []
numbers_or words nothing = words
numbers_or words (position q) = words
numbers_or words (nodes count q) = words

-- The number of nodes that a walk read.
unfoldable pub count_or : ℕ → Values → ℕ
count_or word (nodes count q) = count
count_or word nothing = word
count_or word (position q) = word
count_or word (node n q) = word
count_or word end = word
