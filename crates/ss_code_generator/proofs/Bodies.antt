-- Statements and bodies, from what was emitted for their parts.
use Rattle.std.proofs.Common.{◌≡◌, ℕ, zero, suc, ◌+◌, ◌<◌, ◌≤◌, ◌^◌, List, [], ◌∷◌, ◌++◌, length, map, refl, sym, ap, ◌∙◌, subst, arith, append_assoc, append-nil, length-append}
use Rattle.std.specs.List.{AllZip, AllByRecursion as Every}
use Rattle.ss_code_generator.proofs.Common.{Generator, IsTypedItem, Line, Lined, Lines, loop_width, Mode, no_code, on_line, Placed, RunningLines}
use Rattle.ss_code_generator.specs.Emitted.{Final, HasAdded, HasGenerated, HasNoMore, HasEmitted, HasEmittedAround, HasGrown, IsAround, IsLocated, HasEmittedAroundBoth, HasPrints}
use Rattle.ss_code_generator.specs.Printed.{HasEmittedBlock, HasPrinted, line_or_none, statement_site, HasPrintedBy, HasPrintedLines, HasEmittedStatement}
use Rattle.ss_code_instructions.specs.Translation.{condition_code, for_code, height, phrases_code, place, Site, site_at_line, no_line, if_code, loop_code, in_loop, loop_cells, find_code, items_code, after_items, statement_code, statement_prints, block_code, block_prints}
use Rattle.ss_program.specs.Program.{Guard, Phrase, TheSystem, Condition, Head, Members, PrintItem, AValue, AMean, AMeanOf, Statement, Block, Done}
use Rattle.ss_program.specs.View.{view_item, view_statement, block_of}
use Rattle.ss_program.specs.WellTyped.{IsTypedCondition, IsTypedHead, IsTypedPhrase, IsTypedStatement, TypedScope, IsTypedBlock, CanTakeItem}
use Rattle.ss_picture.specs.declared.field.Field.{Field}
use Rattle.ss_program.specs.declared.statement.Statement as statements
use Rattle.ss_program.specs.declared.statement.Statement.TheVariants as forms
use Rattle.ss_program.specs.Program as p
use Rattle.ss_code_instructions.specs.declared.instruction.Instruction.TheVariants as r
use Rattle.ss_code_instructions.specs.Instructions as i
use Rattle.ss_code_generator.specs.declared.generator.Site.{Site as Here}
use Rattle.ss_code_generator.proofs.Emitting.{grows_same, grows_then, makes_later, adds_none, adds_then, adds_one, adds_piece, adds_apart, adds_same, piece_long, none_there, emits}
use Rattle.ss_code_generator.proofs.PrintLines.{prints_then, prints_long}
use Rattle.ss_code_generator.proofs.Rounds.{for_looped}

-- ## What is seen of a PRINT

pub print_seen : (l : _) (items : _) (pictures : _) → view_statement (forms.Print l items pictures) ≡ p.Print l (map view_item items.items) (map (λ line. line.items) pictures.items)
unfolding view_statement
print_seen l items pictures = refl

-- ## PRINTs

pub has_prints_old : (f : Final) (a b : List RunningLines) (ls : List Lines) → HasPrinted a b ls → HasPrints f b → HasPrints f a
has_prints_old f a b ls h k = (h.0 ++ k.0, k.1 ∙ ap (λ (l : List RunningLines). l ++ k.0) h.1 ∙ append_assoc a h.0 k.0)

-- ## One statement

-- a site of a statement, at the line of that
pub lined : {f : Final} {g : Generator} {h : ℕ} {l : Line} {t : Site} → IsLocated f g (statement_site h) t → IsLocated f g (record { line = l; height = h }) (site_at_line t l)
lined s = record { program = s.program; locals = s.locals; line = refl; high = s.high; deep = s.deep }

-- a statement without PRINTs
pub said : {old new : Generator} {a b : Lined} {h : ℕ} {l : Line} {prints : List RunningLines} {s form : statements.Statement} {Fit : Final → Site → Unit {0} → Type 0} {c : Site → Unit {0} → List Placed} → s ≡ form → l ≡ line_or_none (view_statement s) → ((f : Final) (t : Site) (u : Unit {0}) → IsTypedStatement t.scope (view_statement form) → Fit f t u) → statement_prints (view_statement form) ≡ [] → ((first : ℕ) (t : Site) → c (site_at_line t (line_or_none (view_statement form))) tt ≡ statement_code t first (view_statement form)) → HasGenerated old new a b (record { line = l; height = h }) Fit c HasNoMore → HasEmittedStatement old new a b h prints prints (view_statement s)
said {l = l} {prints} {c = c} is line fits none same m =
    let w = ap view_statement is in
    rw w (record {
      code = emits m.grows (λ f t u around located good.
          adds_same (ap (λ k. c (site_at_line t k) tt) (line ∙ ap line_or_none w) ∙ same (length prints) t) (m.adds f (site_at_line t l) tt around (lined located) (fits f (site_at_line t l) tt good.1)));
      prints = ([], sym (append-nil prints), sym none);
    })

-- ## Bodies

-- WHILE and UNTIL
pub loop_said : {g0 g1 g2 : Generator} {inner x y : Lined} {h : ℕ} {p0 p1 : List RunningLines} {l : Line} (gs : List Guard) (a : Block) → HasEmittedBlock g0 g1 inner h p0 p1 a → HasEmittedAround g1 g2 x y (record { line = l; height = h }) inner (λ s. Every (λ (g : Guard). IsTypedCondition s g.condition) gs) (λ t b. loop_code t gs b) → HasEmittedStatement g0 g2 x y h p0 p1 (p.Loop l gs a)
loop_said {p0 = p0} {l = l} gs a m n = record {
  code = emits (grows_then m.code.grows n.grows) (λ f t u around located good.
      let made = (makes_later n.grows m.code).adds f t tt around located (good.0, good.1.1) in
      n.adds f (site_at_line t l) (block_code t (length p0) a) around (lined located) (made, good.1.0));
  prints = m.prints;
}

-- the cells of a loop do not go by the line
loop_line : (t : Site) (l : Line) (head : Head) → loop_cells (site_at_line t l) head ≡ loop_cells t head
loop_line t l (Members x set TheSystem start reverse) = refl
loop_line t l _ = refl

-- FOR
pub for_said : {g0 g1 g2 g3 g4 : Generator} {x y inner turn : Lined} {h : ℕ} {above_here : Here} {p0 p1 : List RunningLines} {l : Line} (head : Head) (ps : List Phrase) (a : Block) {cells : ℕ} → cells ≡ loop_width head → above_here.line ≡ l → (h + cells < 2 ^ 64 → above_here.height ≡ h + cells) → HasGrown g0 g1 → above_here.height ≤ g1.deepest → HasEmittedBlock g1 g2 inner above_here.height p0 p1 a → HasEmittedAround g2 g3 no_code turn above_here inner (λ s. Every (IsTypedPhrase s) ps) (λ t b. phrases_code t ps b) → HasEmittedAround g3 g4 x y (record { line = l; height = h }) turn (λ s. IsTypedHead s head) (λ t b. for_code t head b) → HasEmittedStatement g0 g4 x y h p0 p1 (p.For l head ps a)
for_said {g2 = g2} {above_here = above_here} {l = l} head ps a wide up_line up reach room m n o = record {
  code = emits (grows_then reach (grows_then m.code.grows (grows_then n.grows o.grows))) (λ f t u around located good.
      let cells_same : loop_cells (site_at_line t l) head ≡ loop_cells t head = loop_line t l head in
      let made = λ (around2 : IsAround f g2) (high : IsLocated f g2 above_here (in_loop (site_at_line t l) head)).
      m.code.adds f (in_loop t head) tt around2 (record { program = high.program; locals = high.locals; line = located.line; high = sym (ap length cells_same) ∙ high.high; deep = subst (λ (ms : List Mode). length ms ≤ f.depth) cells_same high.deep }) (good.0, good.1.2) in
      for_looped head ps wide up_line up room m.code.grows made n o around (lined located) good.1.0 good.1.1);
  prints = m.prints;
}

-- two bodies
module _ {g0 g1 g2 : Generator} {h : ℕ} {first second : Lined} {p0 p1 p2 : List RunningLines} (a b : Block) (m : HasEmittedBlock g0 g1 first h p0 p1 a) (n : HasEmittedBlock g1 g2 second h p1 p2 b) where
  -- what was made for both
  both_add : {f : Final} {g3 : Generator} {t : Site} → HasGrown g2 g3 → IsAround f g3 → IsLocated f g3 (statement_site h) t → HasPrints f p2 → IsTypedBlock t.scope a → IsTypedBlock t.scope b → HasAdded f no_code first (block_code t (length p0) a) × HasAdded f no_code second (block_code t (length p0 + length (block_prints a)) b)
  both_add {f} {t = t} grows around located has good also = (
    (makes_later (grows_then n.code.grows grows) m.code).adds f t tt around located (has_prints_old f p1 p2 (block_prints b) n.prints has, good),
    adds_same (ap (λ k. block_code t k b) (prints_long p0 p1 (block_prints a) m.prints)) ((makes_later grows n.code).adds f t tt around located (has, also)),
  )

  -- IF
  pub if_said : {g3 : Generator} {x y : Lined} {l : Line} (c : Condition) → HasEmittedAroundBoth g2 g3 x y (record { line = l; height = h }) first second (λ s. IsTypedCondition s c) (λ t s. if_code t c s.first s.second) → HasEmittedStatement g0 g3 x y h p0 p2 (p.If l c a b)
  if_said {l = l} c o = record {
    code = emits (grows_then m.code.grows (grows_then n.code.grows o.grows)) (λ f t u around located good.
        let made = both_add o.grows around located good.0 good.1.1 good.1.2 in
        o.adds f (site_at_line t l) (record { first = block_code t (length p0) a; second = block_code t (length p0 + length (block_prints a)) b }) around (lined located) (made.0, made.1, good.1.0));
    prints = prints_then p0 p1 p2 (block_prints a) (block_prints b) m.prints n.prints;
  }

  -- FIND
  pub find_said : {g3 : Generator} {x y : Lined} {l : Line} (head : Head) (ps : List Phrase) → HasEmittedAroundBoth g2 g3 x y (record { line = l; height = h }) first second (λ s. IsTypedHead s head × Every (IsTypedPhrase s) ps) (λ t s. find_code t head ps s.first s.second) → HasEmittedStatement g0 g3 x y h p0 p2 (p.Find l head ps a b)
  find_said {l = l} head ps o = record {
    code = emits (grows_then m.code.grows (grows_then n.code.grows o.grows)) (λ f t u around located good.
        let made = both_add o.grows around located good.0 good.1.2 good.1.3 in
        o.adds f (site_at_line t l) (record { first = block_code t (length p0) a; second = block_code t (length p0 + length (block_prints a)) b }) around (lined located) (made.0, made.1, (good.1.0, good.1.1)));
    prints = prints_then p0 p1 p2 (block_prints a) (block_prints b) m.prints n.prints;
  }

-- PRINT
good_items : (s : TypedScope) (fields : List Field) (xs : List PrintItem) → AllZip (CanTakeItem s) fields xs → Every (λ (x : PrintItem). IsTypedItem x s) xs
good_items s _ [] h = tt
good_items s [] (x ∷ xs) h = absurd h
good_items s (f ∷ fs) (AValue e ∷ xs) h = (h.0.0, good_items s fs xs h.1)
good_items s (f ∷ fs) (AMean k ∷ xs) h = (tt, good_items s fs xs h.1)
good_items s (f ∷ fs) (AMeanOf k e ∷ xs) h = (h.0.1, good_items s fs xs h.1)

pub print_said : {g0 g1 : Generator} {x y : Lined} {h : ℕ} {p0 p1 : List RunningLines} {l l' : Line} (items : List PrintItem) (pictures : List (List ℕ)) → l ≡ l' → HasPrintedLines g0 g1 x y (record { line = l; height = h }) p0 p1 items pictures → HasEmittedStatement g0 g1 x y h p0 p1 (p.Print l' items pictures)
print_said {p0 = p0} {l = l} items pictures line m = record {
  code = emits m.code.grows (λ f t u around located good.
      let code = λ (k : Line). items_code (site_at_line t k) items ++ place (after_items (site_at_line t k) items) (i.Print (length p0) (height t)) ∷ [] in
      adds_same (ap code line) (m.code.adds f (site_at_line t l) tt around (lined located) (good.0, good_items t.scope _ items good.1)));
  prints = m.prints;
}

-- ## One statement more

every_code_more : (t : Site) (first : ℕ) (xs : List Statement) (x : Statement) → block_code t first (block_of (xs ++ x ∷ [])) ≡ block_code t first (block_of xs) ++ statement_code t (first + length (block_prints (block_of xs))) x
every_code_more t first [] x =
    let n : first + 0 ≡ first = omega arith in
    append-nil (statement_code t first x) ∙ ap (λ k. statement_code t k x) (sym n)
every_code_more t first (y ∷ xs) x =
    let next : ℕ = first + length (statement_prints y) in
    let n : next + length (block_prints (block_of xs)) ≡ first + length (statement_prints y ++ block_prints (block_of xs)) = omega (arith, length-append (statement_prints y) (block_prints (block_of xs))) in
    ap (λ (c : List Placed). statement_code t first y ++ c) (every_code_more t next xs x ∙ ap (λ k. block_code t next (block_of xs) ++ statement_code t k x) n)
    ∙ sym (append_assoc (statement_code t first y) (block_code t next (block_of xs)) (statement_code t (first + length (statement_prints y ++ block_prints (block_of xs))) x))

every_print_more : (xs : List Statement) (x : Statement) → block_prints (block_of (xs ++ x ∷ [])) ≡ block_prints (block_of xs) ++ statement_prints x
every_print_more [] x = append-nil (statement_prints x)
every_print_more (y ∷ xs) x = ap (λ (l : List Lines). statement_prints y ++ l) (every_print_more xs x) ∙ sym (append_assoc (statement_prints y) (block_prints (block_of xs)) (statement_prints x))

every_good_more : (s : TypedScope) (xs : List Statement) (x : Statement) → IsTypedBlock s (block_of (xs ++ x ∷ [])) → IsTypedBlock s (block_of xs) × IsTypedStatement s x
every_good_more s [] x h = (tt, h.0)
every_good_more s (y ∷ xs) x h = let k = every_good_more s xs x h.1 in ((h.0, k.0), k.1)

pub body_more : {g0 g1 g2 : Generator} {x y : Lined} {h : ℕ} {p0 p1 p2 : List RunningLines} (xs : List Statement) (s : Statement) → HasEmittedBlock g0 g1 x h p0 p1 (block_of xs) → HasEmittedStatement g1 g2 x y h p1 p2 s → HasEmittedBlock g0 g2 y h p0 p2 (block_of (xs ++ s ∷ []))
body_more {p0 = p0} {p1} {p2} xs s m n = record {
  code = emits (grows_then m.code.grows n.code.grows) (λ f t u around located good.
      let parts = every_good_more t.scope xs s good.1 in
      let long : length p1 ≡ length p0 + length (block_prints (block_of xs)) = prints_long p0 p1 (block_prints (block_of xs)) m.prints in
      let before = (makes_later n.code.grows m.code).adds f t tt around located (has_prints_old f p1 p2 (statement_prints s) n.prints good.0, parts.0) in
      adds_same (sym (every_code_more t (length p0) xs s)) (adds_then before (adds_same (ap (λ k. statement_code t k s) long) (n.code.adds f t tt around located (good.0, parts.1)))));
  prints = subst (HasPrinted p0 p2) (sym (every_print_more xs s)) (prints_then p0 p1 p2 (block_prints (block_of xs)) (statement_prints s) m.prints n.prints);
}

pub body_none : {g : Generator} {x : Lined} {h : ℕ} {prints : List RunningLines} → x ≡ no_code → HasEmittedBlock g g x h prints prints Done
body_none {prints = prints} e = record {
  code = emits grows_same (λ f t u around located good. rw e adds_none);
  prints = ([], sym (append-nil prints), refl);
}

-- and a return at the end
pub section_said : {g0 g1 : Generator} {x y : Lined} {p0 p1 : List RunningLines} (b : Block) → HasEmittedBlock g0 g1 x 0 p0 p1 b → y ≡ x ++ on_line no_line r.Leave ∷ [] → HasPrintedBy g0 g1 no_code y (statement_site 0) p0 p1 (λ s. IsTypedBlock s b) (block_prints b) (λ first t. block_code t first b ++ place t i.Leave ∷ [])
section_said b m is = record {
  code = emits m.code.grows (λ f t u around located good.
      adds_then (m.code.adds f t u around located good) (adds_one is located.line (record { carries = refl; deep = located.deep; shown = tt })));
  prints = m.prints;
}

-- ## IF

if_some : (t : Site) (c : Condition) (a b : List Placed) → 0 < length b → if_code t c a b ≡ condition_code t (length a + 1) c ++ (a ++ (place t (i.Jump (length b)) ∷ b))
if_some t c a [] h = absurd (omega (arith, h))
if_some t c a (x ∷ b) h = refl

pub one_sided : {g0 g1 : Generator} {x y : Lined} {here : Here} {side other test : Lined} (c : Condition) {past : ℕ} → length other ≡ 0 → past ≡ length side → HasEmitted g0 g1 no_code test here (λ s. IsTypedCondition s c) (λ t. condition_code t past c) → y ≡ x ++ (test ++ side) → HasEmittedAroundBoth g0 g1 x y here side other (λ s. IsTypedCondition s c) (λ t b. if_code t c b.first b.second)
one_sided {other = other} c none past_is m is =
    emits m.grows (λ f t b around located fits.
    let cond = adds_same (ap (λ k. condition_code t k c) (past_is ∙ piece_long fits.0)) (m.adds f t tt around located fits.2) in
    adds_same (sym (ap (if_code t c b.first) (none_there f other b.second fits.1 none))) (adds_piece is (adds_apart refl cond fits.0)))

pub two_sided : {g0 g1 : Generator} {x y1 y2 y3 : Lined} {here : Here} {side other test : Lined} (c : Condition) {past skip : ℕ} → (length other ≡ 0 → ⊥) → past ≡ length side + 1 → HasEmitted g0 g1 no_code test here (λ s. IsTypedCondition s c) (λ t. condition_code t past c) → y1 ≡ x ++ (test ++ side) → skip ≡ length other → y2 ≡ y1 ++ on_line here.line (r.Jump skip) ∷ [] → y3 ≡ y2 ++ other → HasEmittedAroundBoth g0 g1 x y3 here side other (λ s. IsTypedCondition s c) (λ t b. if_code t c b.first b.second)
two_sided {x = x} {y1} {y2} {other = other} c some past_is m is1 skip_is is2 is3 =
    emits m.grows (λ f t b around located fits.
    let there : 0 < length b.second = positive (length other) (length b.second) some (piece_long fits.1) in
    let cond = adds_same (ap (λ k. condition_code t k c) (past_is ∙ ap (λ k. k + 1) (piece_long fits.0))) (m.adds f t tt around located fits.2) in
    let jump : HasAdded f y1 y2 (place t (i.Jump (length b.second)) ∷ []) = adds_one is2 located.line (record { carries = ap i.Jump (sym (skip_is ∙ piece_long fits.1)); deep = located.deep; shown = tt }) in
    let front : HasAdded f x y1 (condition_code t (length b.first + 1) c ++ b.first) = adds_piece is1 (adds_apart refl cond fits.0) in
    adds_same (append_assoc (condition_code t (length b.first + 1) c) b.first (place t (i.Jump (length b.second)) ∷ b.second) ∙ sym (if_some t c b.first b.second there)) (adds_then front (adds_then jump (adds_piece is3 fits.1))))
  where
    positive : (n m : ℕ) → (n ≡ 0 → ⊥) → n ≡ m → 0 < m
    positive n zero h e = absurd (h e)
    positive n (suc m) h e = omega arith
