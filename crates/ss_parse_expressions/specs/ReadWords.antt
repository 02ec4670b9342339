-- Reading interchangeable words, names and lists of names.
use Rattle.std.specs.Prelude.{ℕ, List, [], ◌∷◌, Bool, false, Ok, Err, if◌then◌else◌}
use Rattle.ss_lex.specs.declared.word.Word.{Word}
use Rattle.ss_lex.specs.declared.token.TokenKind.{TokenKind}
use Rattle.ss_lex.specs.declared.token.TokenKind.TheVariants as kinds
use Rattle.ss_lex.specs.declared.token.Token.{Token}
use Rattle.ss_parse_expressions.specs.declared.failure.ParseFault.TheVariants.{Syntax}
use Rattle.ss_parse_expressions.specs.declared.classes.WordClass.{WordClass}
use Rattle.ss_parse_expressions.specs.declared.classes.WordClass.TheVariants as classes
use Rattle.ss_parse_expressions.specs.Words.{has_word}
use Rattle.ss_parse_expressions.specs.Reading.{Reader, Mark, begins, skip, expect, begins_by, taken, name_in_token, list_of, skip_comma}

-- ---- single tokens

abbrev pub in_class : WordClass → TokenKind → Bool
in_class class (kinds.Word w) = has_word class w
in_class class _ = false

abbrev pub begins_class : WordClass → List Token → Bool
begins_class class [] = false
begins_class class (t ∷ ts) = in_class class t.kind

-- the tokens after a word of the class, where one is first
abbrev pub skip_class : WordClass → List Token → List Token
skip_class class [] = []
skip_class class (t ∷ ts) = if in_class class t.kind then ts else t ∷ ts

-- a word of the class
abbrev pub expect_class : WordClass → Reader (Unit {0})
expect_class class [] = Err Syntax
expect_class class (t ∷ ts) = if in_class class t.kind then Ok (tt, ts) else Err Syntax

-- whether the mark is first, and the tokens after it
abbrev pub if_present : Mark → Reader Bool
if_present m ts = Ok (begins m ts, skip m ts)

-- reads nothing, and gives this value
abbrev pub done : {A : Type 0} → A → Reader A
done x ts = Ok (x, ts)

abbrev pub fail : {A : Type 0} → Reader A
fail ts = Err Syntax

-- the mark, with a comma before it or not
abbrev pub begins_noisy : Mark → List Token → Bool
begins_noisy m ts = begins m (skip_comma ts)

abbrev pub expect_noisy : Mark → Reader (Unit {0})
expect_noisy m ts = expect m (skip_comma ts)

-- ---- names

abbrev pub begins_name : List Token → Bool
begins_name = begins_by name_in_token

-- names with separators between
abbrev pub names : Reader (List (List ℕ))
names = list_of begins_name (taken name_in_token)

-- the tokens after an article, where there may be one
abbrev pub past_article : Bool → List Token → List Token
past_article articles ts = if articles then skip_class classes.Article ts else ts

abbrev pub begins_item : List Token → Bool
begins_item ts = begins_name (skip_class classes.Article ts)

-- a name, with an article before it or not
abbrev pub articled_name : Reader (List ℕ)
articled_name ts = taken name_in_token (skip_class classes.Article ts)

-- such names with separators between
abbrev pub items : Reader (List (List ℕ))
items = list_of begins_item articled_name

abbrev pub among : (Word → Bool) → TokenKind → Bool
among table (kinds.Word w) = table w
among table _ = false

-- whether a word that the table holds of is first
abbrev pub begins_among : (Word → Bool) → List Token → Bool
begins_among table [] = false
begins_among table (t ∷ ts) = among table t.kind
