-- Words of a class, names and lists of names: what is read is spelled, and what is spelled is read.
use Rattle.std.proofs.Common.{◌≡◌, ℕ, suc, ◌<◌, ◌≤◌, Bool, true, false, ◌||◌, List, [], ◌∷◌, length, Option, Some, Ok, refl, sym, ap, subst, ◌∙◌, arith, inl, inr, ◌⊎◌}
use Rattle.std.proofs.lemmas.Bool.{both_ways, false_from_ne_true}
use Rattle.ss_parse_expressions.proofs.Common.{after_dropped, apply, begins, begins_more, comma, expect, in_table, is, kind_of_mark, Line, Mark, maybe_list, name_in_token, openers, Reader, skip, skip_separator, Span, taken, Token, TokenKind, Word, word}
use Rattle.ss_lex.specs.declared.word.Word.TheVariants as words
use Rattle.ss_lex.specs.declared.token.TokenKind.TheVariants as kinds
use Rattle.ss_parse_expressions.specs.declared.classes.WordClass.{WordClass}
use Rattle.ss_parse_expressions.specs.declared.classes.WordClass.TheVariants as classes
use Rattle.ss_parse_expressions.specs.Shapes.{Shape, ◌▷◌, never, optional, noise, Token_is, Name_is, Word_for, separated_list, flagged}
use Rattle.ss_parse_expressions.specs.Words.{has_word, One_of, Item_is, perhaps_listed}
use Rattle.ss_parse_expressions.specs.ReadWords.{in_class, begins_class, skip_class, expect_class, if_present, fail, begins_noisy, expect_noisy, begins_name, names, past_article, begins_item, articled_name, items, among, begins_among}
use Rattle.ss_parse_expressions.proofs.Tools.{which, carry}
use Rattle.ss_parse_expressions.proofs.Marks.{token, Mark_is, is_true, token_of, mark_begins, begins_mark, no_skip, token_less, skip_openers, starts_otherwise, begins_table}
use Rattle.ss_parse_expressions.proofs.Depth.{upto_same}
use Rattle.ss_parse_expressions.proofs.ReaderLaws.{Reads, Item, continues_never, Made, single_reads, expect_reads, taken_reads, reshaped_reads, Front, mark_front, past_optional, optional_less, skipped_reads, optional_reads, item_marked, item_apply, maybe_list_reads}
use Rattle.ss_parse_expressions.proofs.Rows.{list_reads, Loop, loop_of, separated_item}

-- ---- words of a table

word_for_to : {A : Type 0} (table : Word → Option A) (k : TokenKind) (x : A) (ts rest : List Token) → in_table table k ≡ Some x → Token_is k ts rest → Word_for table x ts rest
word_for_to table (kinds.Word w) x ts rest e at = (w, e, at)
word_for_to table _ x ts rest e at = absurd cc

pub word_in_reads : {A : Type 0} (k : ℕ) (table : Word → Option A) → Reads k (taken (in_table table)) (taken (in_table table)) (Word_for table) continues_never
word_in_reads k table = reshaped_reads (taken_reads k (in_table table)) (Word_for table) (λ x ts rest s. word_for_to table s.0 x ts rest s.1 s.2) (λ x ts rest s. (kinds.Word s.0, s.1, s.2))

-- ---- words of a class

class_word : (c : WordClass) (k : TokenKind) → in_class c k ≡ true → (w : Word) × (has_word c w ≡ true) × (k ≡ kinds.Word w)
class_word c (kinds.Word w) e = (w, e, refl)
class_word c _ e = absurd cc

pub one_of_token : (c : WordClass) (t : Token) (ts : List Token) → in_class c t.kind ≡ true → One_of c (t ∷ ts) ts
one_of_token c t ts e = let w = class_word c t.kind e in (w.0, w.1, token_of t ts (kinds.Word w.0) w.2)

pub one_begins : (c : WordClass) (ts rest : List Token) → One_of c ts rest → begins_class c ts ≡ true
one_begins c ts rest (w, has, (span, line, e)) = ap (begins_class c) e ∙ has

pub one_skips : (c : WordClass) (ts rest : List Token) → One_of c ts rest → skip_class c ts ≡ rest
one_skips c ts rest (w, has, (span, line, e)) = rw (e, has) refl

pub one_less : (c : WordClass) (ts rest : List Token) → One_of c ts rest → suc (length rest) ≡ length ts
one_less c ts rest (w, has, at) = token_less (kinds.Word w) ts rest at

no_skip_class : (c : WordClass) (ts : List Token) → begins_class c ts ≡ false → skip_class c ts ≡ ts
no_skip_class c ts e = grind arith

begins_one : (c : WordClass) (ts : List Token) → begins_class c ts ≡ true → One_of c ts (skip_class c ts)
begins_one c [] e = absurd cc
begins_one c (t ∷ ts) e = rw e (one_of_token c t ts e)

skip_class_openers : (c : WordClass) (ts : List Token) → openers (skip_class c ts) ≤ openers ts
skip_class_openers c ts = grind arith

pub expect_class_reads : (k : ℕ) (c : WordClass) → Reads k (expect_class c) (expect_class c) (λ u. One_of c) continues_never
expect_class_reads k c = single_reads k (in_class c) refl (λ t ts. refl) (one_of_token c) (λ ts rest s. (token (kinds.Word s.0) s.2.0 s.2.1, s.1, s.2.2))

pub class_front : (c : WordClass) → Front (begins_class c) (skip_class c) (One_of c)
class_front c = record { found = begins_one c; kept = no_skip_class c; skips = one_skips c; takes = one_less c; opened = skip_class_openers c }

-- a word of the class that may be left out
pub optional_class_reads : {A : Type 0} {k : ℕ} {q q' : Reader A} {S : A → Shape} {d : List Token → Bool} → Reads k q q' S d → (c : WordClass) → ((x : A) (ts rest : List Token) → S x ts rest → begins_class c ts ≡ false) → Reads k (λ ts. q (skip_class c ts)) (λ ts. q' (skip_class c ts)) (λ x. optional (One_of c) ▷ S x) d
optional_class_reads law c first = skipped_reads (class_front c) law first

-- ---- readers that always fail, and that look for a mark

pub fail_reads : {A : Type 0} (k : ℕ) → Reads k (fail {A = A}) (fail {A = A}) (λ x. never) continues_never
fail_reads k = record {
  sound = λ ts x rest e. absurd cc;
  complete = λ ts x rest s stop. absurd s;
  shorter = λ ts x rest s. absurd s;
  under = λ ts. upto_same _;
  opening = λ ts. tt;
}

pub optionally : (i : Bool) (P : Shape) (ts rest : List Token) → flagged P i ts rest → optional P ts rest
optionally true P ts rest s = inr s
optionally false P ts rest s = inl s

pub present_reads : (k : ℕ) (m : Mark) → Reads k (if_present m) (if_present m) (flagged (Mark_is m)) (begins m)
present_reads k m = record {
  sound = λ ts x rest e. carry (λ (x : Bool) (r : List Token). flagged (Mark_is m) x ts r) (begins m ts) x (skip m ts) rest e (there ts);
  complete = λ ts x rest s stop. λ i. Ok (begun ts x rest s stop i, past_optional (mark_front m) ts rest (optionally x (Mark_is m) ts rest s) stop i);
  shorter = λ ts x rest s. optional_less (mark_front m) ts rest (optionally x (Mark_is m) ts rest s);
  under = λ ts. upto_same _;
  opening = λ ts. skip_openers m ts;
}
  where
    there : (ts : List Token) → flagged (Mark_is m) (begins m ts) ts (skip m ts)
    there ts = elim (which (begins m ts)) [ inl p ↦ rw p (begins_mark m ts p) | inr p ↦ rw p (sym (no_skip m ts p)) ]

    begun : (ts : List Token) (x : Bool) (rest : List Token) → flagged (Mark_is m) x ts rest → begins m rest ≡ false → begins m ts ≡ x
    begun ts true rest s stop = mark_begins m ts rest s
    begun ts false rest s stop = ap (begins m) s ∙ stop

-- ---- a mark with a comma before it or not

pub noisy_mark_reads : (k : ℕ) (m : Mark) → is comma (kind_of_mark m) ≡ false → Reads k (expect_noisy m) (expect_noisy m) (λ u. noise ▷ Mark_is m) continues_never
noisy_mark_reads k m other = optional_reads (expect_reads k m) comma (λ u ts rest s. ap (begins comma) s.2 ∙ other)

pub noisy_begins : (m : Mark) → is comma (kind_of_mark m) ≡ false → (ts rest : List Token) → (noise ▷ Mark_is m) ts rest → begins_noisy m ts ≡ true
noisy_begins m other ts rest (a, noisy, s) = ap (begins m) (past_optional (mark_front comma) ts a noisy (ap (begins comma) s.2 ∙ other)) ∙ mark_begins m a rest s

pub noisy_less : (m : Mark) (ts rest : List Token) → (noise ▷ Mark_is m) ts rest → length rest < length ts
noisy_less m ts rest (a, noisy, s) = omega (arith, optional_less (mark_front comma) ts a noisy, token_less (kind_of_mark m) a rest s)

-- what begins with neither the mark nor a comma before it
pub noisy_stops : (c : List Token → Bool) (m : Mark) → ((span : Span) (line : Line) (ts : List Token) → c (token (kind_of_mark m) span line ∷ ts) ≡ false) → ((span span' : Span) (line line' : Line) (ts : List Token) → c (token (kind_of_mark comma) span line ∷ token (kind_of_mark m) span' line' ∷ ts) ≡ false) → (ts rest : List Token) → (noise ▷ Mark_is m) ts rest → c ts ≡ false
noisy_stops c m alone noisy ts rest (a, inl e, (span, line, f)) = ap c (e ∙ f) ∙ alone span line rest
noisy_stops c m alone noisy ts rest (a, inr (span, line, e), (span', line', f)) = rw (e, f) (noisy span span' line line' rest)

-- ---- names

name_to : (k : TokenKind) (n : List ℕ) (ts rest : List Token) → name_in_token k ≡ Some n → Token_is k ts rest → Name_is n ts rest
name_to (kinds.Name v) n ts rest e at = let same : v ≡ n = cc in subst (λ n. Name_is n ts rest) same at
name_to _ n ts rest e at = absurd cc

pub name_reads : (k : ℕ) → Reads k (taken name_in_token) (taken name_in_token) Name_is continues_never
name_reads k = reshaped_reads (taken_reads k name_in_token) Name_is (λ n ts rest s. name_to s.0 n ts rest s.1 s.2) (λ n ts rest s. (kinds.Name n, refl, s))

pub name_begins : (ts : List Token) (n : List ℕ) (rest : List Token) → Name_is n ts rest → begins_name ts ≡ true
name_begins ts n rest s = begins_table name_in_token ts rest n (kinds.Name n, refl, s)

pub name_less : (ts : List Token) (n : List ℕ) (rest : List Token) → Name_is n ts rest → length rest < length ts
name_less ts n rest s = omega (arith, token_less (kinds.Name n) ts rest s)

pub name_no_and : (ts : List Token) → begins_name ts ≡ true → begins (word words.And) ts ≡ false
name_no_and = starts_otherwise (word words.And) begins_name (λ span line ts. refl)

pub names_reads : (k : ℕ) → Reads k names names (separated_list Name_is) (λ ts. begins_more begins_name ts || (continues_never ts || continues_never ts))
names_reads k = list_reads (name_reads k) begins_name name_begins name_no_and name_less (λ span line ts. refl) (λ span line ts. refl)

-- ---- names with articles

name_no_article : (n : List ℕ) (ts rest : List Token) → Name_is n ts rest → begins_class classes.Article ts ≡ false
name_no_article n ts rest (span, line, e) = rw e refl

pub item_reads : (k : ℕ) → Reads k articled_name articled_name Item_is continues_never
item_reads k = optional_class_reads (name_reads k) classes.Article name_no_article

pub item_begins : (ts : List Token) (n : List ℕ) (rest : List Token) → Item_is n ts rest → begins_item ts ≡ true
item_begins ts n rest (a, article, s) = ap begins_name (past_optional (class_front classes.Article) ts a article (name_no_article n a rest s)) ∙ name_begins a n rest s

pub item_less : (ts : List Token) (n : List ℕ) (rest : List Token) → Item_is n ts rest → length rest < length ts
item_less ts n rest (a, article, s) = omega (arith, optional_less (class_front classes.Article) ts a article, name_less a n rest s)

pub item_no_and : (ts : List Token) → begins_item ts ≡ true → begins (word words.And) ts ≡ false
item_no_and = starts_otherwise (word words.And) begins_item (λ span line ts. refl)

pub items_reads : (k : ℕ) → Reads k items items (separated_list Item_is) (λ ts. begins_more begins_item ts || (continues_never ts || continues_never ts))
items_reads k = list_reads (item_reads k) begins_item item_begins item_no_and item_less (λ span line ts. refl) (λ span line ts. refl)

-- of both kinds of names
pub listed_loop : (articles : Bool) → Loop (begins_more (λ ts. begins_name (past_article articles ts))) (λ r. taken name_in_token (past_article articles (skip_separator r)))
listed_loop true = loop_of (separated_item (item_reads 0) begins_item item_begins item_no_and) refl
listed_loop false = loop_of (separated_item (name_reads 0) begins_name name_begins name_no_and) refl

-- ---- a list with a word before it, or neither

pub perhaps_listed_reads : {X : Type 0} {k : ℕ} {starts : List Token → Bool} {r r' : Reader (List X)} {P : Shape} {S : X → Shape} {c : List Token → Bool} → Item k starts r r' (λ xs. P ▷ separated_list S xs) c → Reads k (maybe_list starts r) (maybe_list starts r') (perhaps_listed P S) (λ ts. starts ts || c ts)
perhaps_listed_reads {X = X} {P = P} {S = S} articled_name = maybe_list_reads articled_name to from (λ ts. refl)
  where
    to : (xs : List X) (ts rest : List Token) → (P ▷ separated_list S xs) ts rest → perhaps_listed P S xs ts rest
    to [] ts rest s = absurd s.2
    to (x ∷ xs) ts rest s = s

    from : (xs : List X) (ts rest : List Token) → perhaps_listed P S xs ts rest → ((xs ≡ []) × (ts ≡ rest)) ⊎ (P ▷ separated_list S xs) ts rest
    from [] ts rest s = inl (refl, s)
    from (x ∷ xs) ts rest s = inr s

-- ---- what begins with none of some words

pub no_word : (p : Word → Bool) (w : Word) → p w ≡ true → (ts : List Token) → begins_among p ts ≡ false → begins (word w) ts ≡ false
no_word p w held [] e = refl
no_word p w held (t ∷ ts) e = false_from_ne_true (is (word w) t.kind) (λ there. both_ways (among p t.kind) e (ap (among p) (is_true (word w) t.kind there) ∙ held))

pub no_class : (p : Word → Bool) (c : WordClass) → ((w : Word) → has_word c w ≡ true → p w ≡ true) → (ts : List Token) → begins_among p ts ≡ false → begins_class c ts ≡ false
no_class p c held [] e = refl
no_class p c held (t ∷ ts) e =
    false_from_ne_true (in_class c t.kind) (λ there. let w = class_word c t.kind there in both_ways (among p t.kind) e (ap (among p) w.2 ∙ held w.0 w.1))

-- an item that is made of what begins with a mark
pub item_made : {A B : Type 0} {k : ℕ} {q q' : Reader A} {S : A → Shape} {d : List Token → Bool} (m : Mark) (law : Reads k q q' S d) (f : A → B) → Item k (begins m) (apply f (after_dropped (expect m) q)) (apply f (after_dropped (expect m) q')) (Made f (λ x. Mark_is m ▷ S x)) d
item_made m law f = item_apply (item_marked m law) f
