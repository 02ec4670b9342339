-- Programs: what is read is spelled, and what is spelled is read.
use Rattle.std.proofs.Common.{◌≡◌, ℕ, zero, suc, ◌≤◌, Bool, true, false, ◌||◌, List, [], ◌∷◌, refl, sym, ap, subst, ◌∙◌, arith}
use Rattle.ss_parse.proofs.Common.{by_word_reads, done_reads, fail_reads, first_less, Form, Line, mode_of_word, name_reads, names_reads, no_word, optional_class_reads, or_false, perhaps_listed_reads, plain_form, Span, Token, Word, word_in_reads}
use Rattle.ss_lex.specs.declared.word.Word.TheVariants as words
use Rattle.ss_lex.specs.declared.token.Symbol.TheVariants.{Comma}
use Rattle.ss_lex.specs.declared.token.TokenKind.TheVariants as kinds
use Rattle.ss_tree.specs.Tree.{StatementTree, DefinitionTree, SectionKindTree, main, routine, event, SectionTree}
use Rattle.ss_parse_expressions.specs.declared.classes.WordClass.TheVariants as classes
use Rattle.ss_parse_expressions.specs.Shapes.{Shape, ◌▷◌, nothing, optional, provided, noise, Word_is, Name_is, at, each_in_turn, flagged}
use Rattle.ss_parse_expressions.specs.Words.{One_of, perhaps_listed}
use Rattle.ss_parse_expressions.specs.Reading.{word, is, begins, expect, after_dropped, maybe_list, rows, begins_more}
use Rattle.ss_parse_expressions.specs.ReadWords.{fail, begins_class, begins_among, begins_name, names}
use Rattle.ss_parse_expressions.proofs.Marks.{token, mark_begins, token_less, starts_otherwise}
use Rattle.ss_parse_expressions.proofs.ReaderLaws.{Reads, Item, continues_never, Made, made_reads, reshaped_reads, seq_reads, marked_reads, closed_reads, before_mark_reads, optional_reads, apply_reads, fewer_reads, lined_reads, item_of, item_marked, flag_reads, expect_reads}
use Rattle.ss_parse_expressions.proofs.Rows.{rows_reads, Loop, loop_of}
use Rattle.ss_parse.specs.SpelledPreambles.{Variables_are}
use Rattle.ss_parse.specs.SpelledPrograms.{section_word, Saving_words, Kind_rest, Definition_is, Section_is, Program_is}
use Rattle.ss_parse_statements.specs.ReadStatements.{form_word}
use Rattle.ss_parse.proofs.Forms.{mode_no_article}
use Rattle.ss_parse.proofs.WholePreambles.{whole_preamble_reads}
use Rattle.ss_parse.specs.ReadPrograms.{section_words, begins_section, saving, routine_kind, event_kind, kind_after, variables, definition_tree, definition_at, definition, definitions, body_in, section_tree, section_at, section_in, program_tree, program_in}
use Rattle.ss_parse_statements.proofs.Beginnings.{false_past_comma}
use Rattle.ss_parse_statements.proofs.Levels.{In_statement, all_statements_reads}

-- ---- the headers of sections

section_known : (kind : SectionKindTree) → section_words (section_word kind) ≡ true
section_known main = refl
section_known _ = refl

-- words that continue the header of a section
abbrev kind_more : Word → Bool
kind_more words.Given = true
kind_more words.Yielding = true
kind_more words.Saving = true
kind_more _ = false

-- what continues the header of a section
abbrev continues_kind : List Token → Bool
continues_kind ts = begins_among kind_more ts || begins_more begins_name ts

abbrev continues_listed : Word → List Token → Bool
continues_listed w ts = begins (word w) ts || (begins_more begins_name ts || (continues_never ts || continues_never ts))

kind_word : (w : Word) → kind_more w ≡ true → (ts : List Token) → continues_kind ts ≡ false → begins (word w) ts ≡ false
kind_word w held ts stop = no_word kind_more w held ts (or_false (begins_among kind_more ts) (begins_more begins_name ts) stop).0

kind_names : (w : Word) → kind_more w ≡ true → (ts : List Token) → continues_kind ts ≡ false → continues_listed w ts ≡ false
kind_names w held ts stop =
    rw (kind_word w held ts stop, (or_false (begins_among kind_more ts) (begins_more begins_name ts) stop).1) refl

module _ (k : ℕ) where
  names_after : (w : Word) → Reads k (maybe_list (begins (word w)) (after_dropped (expect (word w)) names)) (maybe_list (begins (word w)) (after_dropped (expect (word w)) names)) (perhaps_listed (Word_is w) Name_is) (continues_listed w)
  names_after w = perhaps_listed_reads (item_marked (word w) (names_reads k))

  yielding_stops : (ys : List (List ℕ)) (ts rest : List Token) → perhaps_listed (Word_is words.Yielding) Name_is ys ts rest → continues_kind rest ≡ false → continues_listed words.Given ts ≡ false
  yielding_stops [] ts rest e stop = ap (continues_listed words.Given) e ∙ kind_names words.Given refl rest stop
  yielding_stops (y ∷ ys) ts rest (a, (span, line, f), s) stop = ap (continues_listed words.Given) f

  abbrev Routine_parts : List ℕ × (List (List ℕ) × List (List ℕ)) → Shape
  Routine_parts p = optional (One_of classes.Towards) ▷ Name_is p.0 ▷ perhaps_listed (Word_is words.Given) Name_is p.1.0 ▷ perhaps_listed (Word_is words.Yielding) Name_is p.1.1

  routine_reads : Reads k routine_kind routine_kind (Made (λ p. routine p.0 p.1.0 p.1.1) Routine_parts) continues_kind
  unfolding routine_kind
  routine_reads = made_reads {S = Routine_parts} (optional_class_reads (seq_reads (name_reads k) (seq_reads (names_after words.Given) (fewer_reads (names_after words.Yielding) continues_kind (kind_names words.Yielding refl)) yielding_stops) (λ p ts rest s stop. refl)) classes.Towards (λ x ts rest s. ap (begins_class classes.Towards) s.1.2)) (λ p. routine p.0 p.1.0 p.1.1)

  saving_reads : Reads k saving saving (flagged Saving_words) continues_kind
  unfolding saving
  saving_reads = fewer_reads (flag_reads (item_marked (word words.Saving) (optional_reads (marked_reads (word words.Event) (expect_reads k (word words.Notice))) (word words.The) (λ u ts rest s. ap (begins (word words.The)) s.1.2)))) continues_kind (λ ts stop. let a = kind_word words.Saving refl ts stop in rw a refl)

  saving_stops : (b : Bool) (ts rest : List Token) → flagged Saving_words b ts rest → continues_kind rest ≡ false → continues_listed words.Given ts ≡ false
  saving_stops false ts rest e stop = ap (continues_listed words.Given) e ∙ kind_names words.Given refl rest stop
  saving_stops true ts rest (a, (span, line, f), s) stop = ap (continues_listed words.Given) f

  abbrev Event_parts : List ℕ × (List (List ℕ) × Bool) → Shape
  Event_parts p = Name_is p.0 ▷ perhaps_listed (Word_is words.Given) Name_is p.1.0 ▷ flagged Saving_words p.1.1

  event_reads : Reads k event_kind event_kind (Made (λ p. event p.0 p.1.0 p.1.1) Event_parts) continues_kind
  unfolding event_kind
  event_reads = made_reads {S = Event_parts} (seq_reads (name_reads k) (seq_reads (names_after words.Given) saving_reads saving_stops) (λ p ts rest s stop. refl)) (λ p. event p.0 p.1.0 p.1.1)

  abbrev Kind_is : Word → SectionKindTree → Shape
  Kind_is w x = provided (section_word x ≡ w) (Kind_rest x)

  no_kind : (w : Word) → section_words w ≡ false → Reads k fail fail (Kind_is w) continues_kind
  no_kind w other = fewer_reads (reshaped_reads (fail_reads k) (Kind_is w) (λ x ts rest s. absurd s) (λ x ts rest s. absurd (let a = section_known x in let b : section_words (section_word x) ≡ section_words w = ap section_words s.0 in cc))) continues_kind (λ ts stop. refl)

  kind_reads : (w : Word) → Reads k (kind_after w) (kind_after w) (Kind_is w) continues_kind
  kind_reads words.Main = fewer_reads (reshaped_reads (done_reads k main) (Kind_is words.Main) (λ x ts rest s. subst (λ x. Kind_is words.Main x ts rest) s.0 (refl, s.1)) from) continues_kind (λ ts stop. refl)
    where
      from : (x : SectionKindTree) (ts rest : List Token) → Kind_is words.Main x ts rest → provided (main ≡ x) nothing ts rest
      from main ts rest (u, s) = (refl, s)
      from _ ts rest (u, s) = absurd cc
  kind_reads words.Routine = reshaped_reads routine_reads (Kind_is words.Routine) (λ x ts rest s. subst (λ x. Kind_is words.Routine x ts rest) s.1 (refl, s.2)) from
    where
      from : (x : SectionKindTree) (ts rest : List Token) → Kind_is words.Routine x ts rest → Made (λ p. routine p.0 p.1.0 p.1.1) Routine_parts x ts rest
      from (routine name given yielding) ts rest (u, s) = ((name, (given, yielding)), refl, s)
      from _ ts rest (u, s) = absurd cc
  kind_reads words.Event = reshaped_reads event_reads (Kind_is words.Event) (λ x ts rest s. subst (λ x. Kind_is words.Event x ts rest) s.1 (refl, s.2)) from
    where
      from : (x : SectionKindTree) (ts rest : List Token) → Kind_is words.Event x ts rest → Made (λ p. event p.0 p.1.0 p.1.1) Event_parts x ts rest
      from (event name given saving) ts rest (u, s) = ((name, (given, saving)), refl, s)
      from _ ts rest (u, s) = absurd cc
  kind_reads _ = no_kind _ refl

  -- ---- definitions

  pub variables_reads : Reads k variables variables Variables_are continues_never
  unfolding variables
  variables_reads = seq_reads (names_reads k) (marked_reads (word words.As) (optional_class_reads (closed_reads (word_in_reads k mode_of_word) (expect_reads k (word words.Variable)) (λ ts rest s stop. refl)) classes.Article (λ mode ts rest s. ap (begins_class classes.Article) s.1.2.2 ∙ mode_no_article s.1.0 mode s.1.1))) (λ mode ts rest s stop. ap (λ (r : List Token). begins_more begins_name r || (continues_never r || continues_never r)) s.1.2)

  definition_reads : Reads k definition definition Definition_is continues_never
  unfolding definition_at
  definition_reads = lined_reads (λ line. made_reads (marked_reads (word words.Define) variables_reads) (definition_tree line)) Definition_is (λ x ts rest s. subst (λ x. Definition_is x ts rest) s.1 (refl, s.2)) (λ x ts rest s. ((x.names, x.mode), (λ i. record { line = s.0 i; names = x.names; mode = x.mode }), s.1))

  definition_item : Item k (begins (word words.Define)) definition definition Definition_is continues_never
  definition_item = item_of (begins (word words.Define)) definition_reads (λ ts x rest s. mark_begins (word words.Define) ts s.1.0 s.1.1) (λ ts x rest s. omega (arith, token_less (kinds.Word words.Define) ts s.1.0 s.1.1, variables_reads.shorter s.1.0 (x.names, x.mode) rest s.1.2))

  definitions_reads : Reads k definitions definitions (each_in_turn Definition_is) (λ ts. begins (word words.Define) ts || continues_never ts)
  definitions_reads = rows_reads definition_item (λ ts x rest s. refl)

pub definitions_loop : Loop (begins (word words.Define)) definition
definitions_loop = loop_of (definition_item 0) refl

-- ---- bodies

word_no_define : (w : Word) → form_word w ≡ true → (is (word words.Define) (kinds.Word w) ≡ false) × (is (word words.And) (kinds.Word w) ≡ false) × (kind_more w ≡ false)
word_no_define words.Define e = absurd cc
word_no_define words.And e = absurd cc
word_no_define words.Given e = absurd cc
word_no_define words.Yielding e = absurd cc
word_no_define words.Saving e = absurd cc
word_no_define _ e = (refl, refl, refl)

false_at_any_statement : (n : ℕ) (c : List Token → Bool) → ((span span' : Span) (line line' : Line) (w : Word) (ts : List Token) → form_word w ≡ true → c (token (kinds.Symbol Comma) span line ∷ token (kinds.Word w) span' line' ∷ ts) ≡ false) → ((w : Word) (span : Span) (line : Line) (ts : List Token) → form_word w ≡ true → c (token (kinds.Word w) span line ∷ ts) ≡ false) → (x : StatementTree) (ts rest : List Token) → (noise ▷ In_statement n x) ts rest → c ts ≡ false
false_at_any_statement zero c on_comma on_word x ts rest (a, m, s) = absurd s
false_at_any_statement (suc l) c on_comma on_word x ts rest s = false_past_comma c on_comma on_word l x ts rest s

module _ (n : ℕ) where
  abbrev Room_statement : StatementTree → Shape
  Room_statement x = noise ▷ In_statement n x

  -- the statements of a section, and END
  abbrev Statements_end : List StatementTree → Shape
  Statements_end xs = each_in_turn Room_statement xs ▷ Word_is words.End

  false_at_end : (c : List Token → Bool) → ((span span' : Span) (line line' : Line) (w : Word) (ts : List Token) → form_word w ≡ true → c (token (kinds.Symbol Comma) span line ∷ token (kinds.Word w) span' line' ∷ ts) ≡ false) → ((w : Word) (span : Span) (line : Line) (ts : List Token) → form_word w ≡ true → c (token (kinds.Word w) span line ∷ ts) ≡ false) → ((span : Span) (line : Line) (ts : List Token) → c (token (kinds.Word words.End) span line ∷ ts) ≡ false) → (xs : List StatementTree) (ts rest : List Token) → Statements_end xs ts rest → c ts ≡ false
  false_at_end c on_comma on_word on_end [] ts rest (a, e, (span, line, f)) = ap c (e ∙ f) ∙ on_end span line rest
  false_at_end c on_comma on_word on_end (x ∷ xs) ts rest (a, (b, one, more), s) = false_at_any_statement n c on_comma on_word x ts b one

  no_define : (xs : List StatementTree) (ts rest : List Token) → Statements_end xs ts rest → begins (word words.Define) ts ≡ false
  no_define xs ts rest s = false_at_end (begins (word words.Define)) (λ span span' line line' w r e. refl) (λ w span line r e. (word_no_define w e).0) (λ span line ts. refl) xs ts rest s

  abbrev Body_is : List DefinitionTree × List StatementTree → Shape
  Body_is p = each_in_turn Definition_is p.0 ▷ Statements_end p.1

  body_no_kind : (p : List DefinitionTree × List StatementTree) (ts rest : List Token) → Body_is p ts rest → continues_kind ts ≡ false
  body_no_kind (d ∷ ds, xs) ts rest (a, (b, (at, (c, (span, line, e), s)), more), t) = ap continues_kind e
  body_no_kind ([], xs) ts rest (a, f, s) =
      ap continues_kind f ∙ false_at_end continues_kind
      (λ span span' line line' w r e. let no : is (word words.And) (kinds.Word w) ≡ false = (word_no_define w e).1 in rw no refl)
      (λ w span line r e. let no : is (word words.And) (kinds.Word w) ≡ false = (word_no_define w e).1 in let more : kind_more w ≡ false = (word_no_define w e).2 in rw (no, more) refl)
      (λ span line ts. refl) xs a rest s

-- ---- sections

module _ (n m : ℕ) (le : n ≤ m) where
  body_reads : Reads n (body_in n) (body_in m) (Body_is n) continues_never
  body_reads = seq_reads (definitions_reads n) (before_mark_reads (word words.End) (all_statements_reads n m le) (λ span line ts. refl)) (λ xs ts rest s stop. let none : begins (word words.Define) ts ≡ false = no_define n xs ts rest s in rw none refl)

  abbrev Section_rest : SectionTree → Shape
  Section_rest x = Kind_rest x.kind ▷ Body_is n (x.definitions, x.body)

  abbrev Sections_by : Line → Word → SectionTree → Shape
  Sections_by line w x ts rest = (x.line ≡ line) × (section_word x.kind ≡ w) × Section_rest x ts rest

  section_law : (line : Line) (w : Word) → Form n w (section_at n line w) (section_at m line w) (Sections_by line w) continues_never
  unfolding section_at
  section_law line w =
      plain_form w (apply_reads (seq_reads (kind_reads n w) body_reads (λ p ts rest s stop. body_no_kind n p ts rest s)) (section_tree line) (Sections_by line w)
      (λ p ts rest s. (refl, s.1.0, (s.0, s.1.1, s.2)))
      (λ x ts rest s. ((x.kind, (x.definitions, x.body)), (λ i. record { line = sym s.0 i; kind = x.kind; definitions = x.definitions; body = x.body }), (s.2.0, (s.1, s.2.1), s.2.2))))

  abbrev In_section : SectionTree → Shape
  In_section x = at x.line (Word_is (section_word x.kind) ▷ Section_rest x)

  section_reads : Reads n (section_in n) (section_in m) In_section continues_never
  section_reads = by_word_reads (λ (x : SectionTree). x.line) (λ (x : SectionTree). section_word x.kind) Section_rest section_law

  in_section_item : Item n begins_section (section_in n) (section_in m) In_section continues_never
  in_section_item = item_of begins_section section_reads (λ ts x rest s. ap begins_section s.1.1.2 ∙ section_known x.kind) (λ ts x rest s. first_less (λ (x : SectionTree). x.line) (λ (x : SectionTree). section_word x.kind) Section_rest section_law ts x rest s)

pub sections_loop : (room : ℕ) → Loop begins_section (section_in room)
sections_loop room = loop_of (in_section_item room room (omega arith)) refl

module _ (n m : ℕ) (le : n ≤ m) where
  pub section_item : Item (suc n) begins_section (section_in (suc n)) (section_in (suc m)) (Section_is n) continues_never
  section_item = in_section_item (suc n) (suc m) (omega arith)

  -- ---- programs

  abbrev continues_program : List Token → Bool
  continues_program ts = begins (word words.Preamble) ts || begins_section ts

  sections_reads : Reads (suc n) (rows begins_section (section_in (suc n))) (rows begins_section (section_in (suc m))) (each_in_turn (Section_is n)) continues_program
  sections_reads = fewer_reads (rows_reads section_item (λ ts x rest s. refl)) continues_program (λ ts stop. let none = (or_false (begins (word words.Preamble) ts) (begins_section ts) stop).1 in rw none refl)

  sections_stop : (xs : List SectionTree) (ts rest : List Token) → each_in_turn (Section_is n) xs ts rest → continues_program rest ≡ false → (begins (word words.Preamble) ts || continues_never ts) ≡ false
  sections_stop [] ts rest e stop = let none = (or_false (begins (word words.Preamble) rest) (begins_section rest) stop).0 in rw (e, none) refl
  sections_stop (x ∷ xs) ts rest (a, one, more) stop =
      let none = starts_otherwise (word words.Preamble) begins_section (λ span line ts. refl) ts (section_item.begins ts x a one) in
      rw none refl

  pub program_reads : Reads (suc n) (program_in (suc n)) (program_in (suc m)) (Program_is n) continues_program
  unfolding program_in
  program_reads = apply_reads (seq_reads (whole_preamble_reads (suc n)) sections_reads sections_stop) program_tree (Program_is n) (λ p ts rest s. s) (λ p ts rest s. ((p.preamble, p.sections), refl, s))
