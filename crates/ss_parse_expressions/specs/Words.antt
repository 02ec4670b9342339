-- Which tokens spell interchangeable words, names and lists of names.
use Rattle.std.specs.Prelude.{◌≡◌, ℕ, List, [], ◌∷◌, Bool, true, false}
use Rattle.ss_lex.specs.declared.word.Word.{Word}
use Rattle.ss_lex.specs.declared.word.Word.TheVariants as words
use Rattle.ss_parse_expressions.specs.declared.classes.WordClass.{WordClass}
use Rattle.ss_parse_expressions.specs.declared.classes.WordClass.TheVariants as classes
use Rattle.ss_parse_expressions.specs.Shapes.{Shape, ◌▷◌, nothing, optional, Word_is, Name_is, separated_list}

-- which words are interchangeable in a place
abbrev pub has_word : WordClass → Word → Bool
has_word classes.Article words.A = true
has_word classes.Article words.An = true
has_word classes.Article words.The = true
has_word classes.Indefinite words.A = true
has_word classes.Indefinite words.An = true
has_word classes.Each words.Each = true
has_word classes.Each words.Every = true
has_word classes.Each words.All = true
has_word classes.Given words.Given = true
has_word classes.Given words.Giving = true
has_word classes.Towards words.To = true
has_word classes.Towards words.For = true
has_word _ _ = false

-- any word of the class
abbrev pub One_of : WordClass → Shape
One_of class ts rest = (w : Word) × (has_word class w ≡ true) × Word_is w ts rest

-- THE, which may be left out
abbrev pub the : Shape
the = optional (Word_is words.The)

-- a name, with an article before it or not
abbrev pub Item_is : List ℕ → Shape
Item_is n = optional (One_of classes.Article) ▷ Name_is n

-- the word and a list after it, or neither where the list is empty
abbrev pub perhaps_listed : {X : Type 0} → Shape → (X → Shape) → List X → Shape
perhaps_listed P S [] = nothing
perhaps_listed P S (x ∷ xs) = P ▷ separated_list S (x ∷ xs)
