-- What the generator emits for a PRINT.
use Rattle.std.proofs.Common.{◌≡◌, ℕ, suc, false, ◌+◌, ◌<◌, ◌≤◌, ◌^◌, List, [], ◌∷◌, ◌++◌, length, map, Some, refl, sym, ap, ◌∙◌, arith, append_assoc, append-nil}
use Rattle.ss_code_generator.proofs.Common.{Address, AMean, AMeanOf, AValue, Expression, Generator, HasEmitted, HasGenerated, HasGrown, HasPrintedLines, IsLocated, IsTyped, ItemKind, Lined, Mode, on_line, Placed, PrintItem, Program, scope_for_modes, slice_get, Stays, TypedScope}
use Rattle.std.specs.List.{AllByRecursion as Every}
use Rattle.ss_code_instructions.specs.Carried.{IsInFrame, RunningLines, lines_of_running, kind_of_item, item_modes, onto}
use Rattle.ss_code_instructions.specs.Translation.{above, expression_code, expression_mode, height, next, Site, item_code, item_cells, items_code, items_cells, after_items, item_kind, with_cells}
use Rattle.ss_base.specs.declared.layout.Mode.TheVariants as modes
use Rattle.ss_code_instructions.specs.declared.instruction.Instruction.TheVariants as r
use Rattle.ss_code_instructions.specs.Instructions as i
use Rattle.ss_code_generator.specs.declared.generator.Site.{Site as Here}
use Rattle.ss_code_generator.specs.Items.{value_kind, running_kind, item_width, IsTypedItem}
use Rattle.ss_code_generator.proofs.Emitting.{around_old, grows_same, grows_then, stands_old, stands_new, stands_above, makes_later, adds_none, adds_then, adds_one, adds_same, emits}
use Rattle.ss_code_generator.proofs.Modes.{mode_by}
use Rattle.ss_code_generator.proofs.Operands.{number_at, cell_at_site}
use Rattle.ss_code_generator.proofs.Listed.{every_split}
use Rattle.ss_code_generator.proofs.Spotted.{program_at}

-- ## Items

pub mean_of_looked : {old mid new : Generator} {p q v : Lined} {here : Here} (k : ℕ) (e : Expression) {cell : Address} → HasEmitted old mid p q here (IsTyped e) (λ t. expression_code t (next t) e) → HasGrown mid new → IsInFrame (length new.locals.items + here.height) cell → here.height < new.deepest → v ≡ q ++ on_line here.line (r.LookMean k cell) ∷ [] → HasEmitted old new p v here (IsTypedItem (AMeanOf k e)) (λ t. item_code t (AMeanOf k e))
mean_of_looked k e m g at room is =
    emits (grows_then m.grows g) (λ f t u around located good.
    let high : height (above t modes.Integer) ≡ height t + 1 = omega arith in
    let deep : height (above t modes.Integer) ≤ f.depth = omega (arith, high, located.high, room, around.depth) in
    adds_then ((makes_later g m).adds f t tt around located (modes.Integer, good)) (adds_one is located.line (record { carries = (Some (Stays (height t)), cell_at_site located at, refl); deep = deep; shown = tt })))

-- ## Several items

-- code of items, and where it goes on
abbrev pub MakesItems : (old new : Generator) → (before after : Lined) → (here next : Here) → List PrintItem → Type 0
MakesItems old new before after here next xs =
    HasGenerated old new before after here (λ f t (u : Unit {0}). Every (λ x. IsTypedItem x t.scope) xs) (λ t u. items_code t xs) (λ f t u. IsLocated f new next (after_items t xs))

-- code of items, without where it goes on
abbrev pub MakesAll : (old new : Generator) → (before after : Lined) → Here → List PrintItem → Type 0
MakesAll old new before after here xs =
    HasGenerated old new before after here (λ f t (u : Unit {0}). Every (λ x. IsTypedItem x t.scope) xs) (λ t u. items_code t xs) (λ f t u. height (after_items t xs) ≤ f.depth)

pub no_items : {g : Generator} {p : Lined} {here : Here} → MakesItems g g p p here here []
no_items = record {
  grows = grows_same;
  adds = λ f t u around located good. adds_none;
  more = λ f t u around located good. located;
}

items_code_more : (t : Site) (xs : List PrintItem) (x : PrintItem) → items_code t (xs ++ x ∷ []) ≡ items_code t xs ++ item_code (after_items t xs) x
items_code_more t [] x = append-nil (item_code t x)
items_code_more t (y ∷ xs) x =
    let u : Site = with_cells t (item_cells t.scope y t.cells) in
    ap (λ (c : List Placed). item_code t y ++ c) (items_code_more u xs x) ∙ sym (append_assoc (item_code t y) (items_code u xs) (item_code (after_items u xs) x))

items_cells_more : (s : TypedScope) (xs : List PrintItem) (x : PrintItem) (ms : List Mode) → items_cells s (xs ++ x ∷ []) ms ≡ item_cells s x (items_cells s xs ms)
items_cells_more s [] x ms = refl
items_cells_more s (y ∷ xs) x ms = items_cells_more s xs x (item_cells s y ms)

item_high : (s : TypedScope) (x : PrintItem) (ms : List Mode) → length (item_cells s x ms) ≡ length ms + item_width x
item_high s (AValue e) ms = let n : suc (length ms) ≡ length ms + 1 = omega arith in n
item_high s (AMean k) ms = let n : length ms ≡ length ms + 0 = omega arith in n
item_high s (AMeanOf k e) ms = let n : suc (length ms) ≡ length ms + 1 = omega arith in n

pub items_more : {old mid new : Generator} {p q v : Lined} {here one two : Here} (xs : List PrintItem) (x : PrintItem) {n : ℕ} → MakesItems old mid p q here one xs → HasEmitted mid new q v one (IsTypedItem x) (λ t. item_code t x) → n ≡ item_width x → one.height + n ≤ new.deepest → two.line ≡ one.line → (one.height + n < 2 ^ 64 → two.height ≡ one.height + n) → MakesItems old new p v here two (xs ++ x ∷ [])
items_more xs x {n} m k wide room line up = record {
  grows = grows_then m.grows k.grows;
  adds = λ f t u around located good.
      let both = every_split (λ (y : PrintItem). IsTypedItem y t.scope) xs x good in
      let m' = makes_later k.grows m in
      adds_same (sym (items_code_more t xs x)) (adds_then (m'.adds f t tt around located both.0) (k.adds f (after_items t xs) tt around (stands_new k.grows (m'.more f t tt around located both.0)) both.1));
  more = λ f t u around located good.
      let both = every_split (λ (y : PrintItem). IsTypedItem y t.scope) xs x good in
      let on = stands_new k.grows ((makes_later k.grows m).more f t tt around located both.0) in
      let w : Site = after_items t xs in
      let z : Site = after_items t (xs ++ x ∷ []) in
      let high : height z ≡ height w + n = ap length (items_cells_more t.scope xs x t.cells) ∙ item_high t.scope x w.cells ∙ ap (λ j. height w + j) (sym wide) in
      stands_above n around.small on line up refl refl high (omega (arith, high, on.high, room, around.depth));
}

-- ## What a PRINT shows

-- what items are goes by the program and the local variables
kind_by : (s : TypedScope) (p : Program) (locals : List Mode) (x : PrintItem) → s.program ≡ p → s.locals ≡ locals → running_kind s x ≡ running_kind (record { program = p; locals = locals; is_main = false }) x
kind_by s p locals (AValue e) q l = ap value_kind (mode_by s p locals e q l)
kind_by s p locals _ q l = refl

kinds_by : (s : TypedScope) (p : Program) (locals : List Mode) (xs : List PrintItem) → s.program ≡ p → s.locals ≡ locals → map (running_kind s) xs ≡ map (running_kind (record { program = p; locals = locals; is_main = false })) xs
kinds_by s p locals [] q l = refl
kinds_by s p locals (x ∷ xs) q l =
    let t : TypedScope = record { program = p; locals = locals; is_main = false } in
    ap (λ (k : ItemKind). k ∷ map (running_kind s) xs) (kind_by s p locals x q l) ∙ ap (λ (ks : List ItemKind). running_kind t x ∷ ks) (kinds_by s p locals xs q l)

value_onto : (m : Mode) (ks : List ItemKind) (ms : List Mode) → onto (item_modes (value_kind m ∷ ks)) ms ≡ onto (item_modes ks) (m ∷ ms)
value_onto modes.Integer ks ms = refl
value_onto modes.Alpha ks ms = refl

-- the cells that items take have the modes of what they are
cells_onto : (s : TypedScope) (xs : List PrintItem) (ms : List Mode) → items_cells s xs ms ≡ onto (item_modes (map (running_kind s) xs)) ms
cells_onto s [] ms = refl
cells_onto s (AValue e ∷ xs) ms = cells_onto s xs (expression_mode s e ∷ ms) ∙ sym (value_onto (expression_mode s e) (map (running_kind s) xs) ms)
cells_onto s (AMean k ∷ xs) ms = cells_onto s xs ms
cells_onto s (AMeanOf k e ∷ xs) ms = cells_onto s xs (modes.Integer ∷ ms)

value_said : (m : Mode) → kind_of_item (value_kind m) ≡ i.ShowsValue
value_said modes.Integer = refl
value_said modes.Alpha = refl

kind_said : (s : TypedScope) (x : PrintItem) → kind_of_item (running_kind s x) ≡ item_kind x
kind_said s (AValue e) = value_said (expression_mode s e)
kind_said s _ = refl

kinds_said : (s : TypedScope) (xs : List PrintItem) → map kind_of_item (map (running_kind s) xs) ≡ map item_kind xs
kinds_said s [] = refl
kinds_said s (x ∷ xs) = ap (λ (k : i.ItemKind). k ∷ map kind_of_item (map (running_kind s) xs)) (kind_said s x) ∙ ap (λ (ks : List i.ItemKind). item_kind x ∷ ks) (kinds_said s xs)

at_front : {A : Type 0} (before : List A) (v : A) (rest : List A) → slice_get (before ++ v ∷ rest) (length before) ≡ Some v
at_front [] v rest = refl
at_front (x ∷ before) v rest = at_front before v rest

-- the PRINT after its items
pub printed : {old mid new : Generator} {p q v : Lined} {here : Here} {old_prints new_prints : List RunningLines} (xs : List PrintItem) (pictures : List (List ℕ)) {made : RunningLines} {n cell : ℕ} → HasGrown old mid → MakesAll mid new p q here xs → made ≡ record { pictures = pictures; items = map (running_kind (scope_for_modes old.program.now old.locals.items)) xs } → new_prints ≡ old_prints ++ made ∷ [] → n ≡ length old_prints → cell ≡ length new.locals.items + here.height → v ≡ q ++ on_line here.line (r.Print n cell) ∷ [] → HasPrintedLines old new p v here old_prints new_prints xs pictures
printed {old = old} {old_prints = old_prints} xs pictures {made} g m is_made prints is_n is_cell is = record {
  code = emits (grows_then g m.grows) (λ f t u around located fits.
      let grown = grows_then g m.grows in
      let there_old = stands_old grown located in
      let found : f.prints ≡ old_prints ++ (made ∷ fits.0.0) = fits.0.1 ∙ ap (λ (l : List RunningLines). l ++ fits.0.0) prints ∙ append_assoc old_prints (made ∷ []) fits.0.0 in
      let at : slice_get f.prints (length old_prints) ≡ Some made = ap (λ (l : List RunningLines). slice_get l (length old_prints)) found ∙ at_front old_prints made fits.0.0 in
      let kinds : map (running_kind t.scope) xs ≡ made.items = kinds_by t.scope _ _ xs (program_at (around_old grown around) there_old) there_old.locals ∙ sym (ap (λ (l : RunningLines). l.items) is_made) in
      let cells : (after_items t xs).cells ≡ onto (item_modes made.items) t.cells = cells_onto t.scope xs t.cells ∙ ap (λ (ks : List ItemKind). onto (item_modes ks) t.cells) kinds in
      adds_then (m.adds f t tt around located fits.1) (adds_one is located.line
      (record { carries = (height t, number_at located is_cell, ap (λ (j : ℕ). i.Print j (height t)) (sym is_n)); deep = m.more f t tt around located fits.1; shown = (made, at, (t.cells, cells)) })));
  prints = (
    made ∷ [],
    prints,
    ap (λ (l : RunningLines). lines_of_running l ∷ []) is_made ∙ ap (λ (ks : List i.ItemKind). record { pictures = pictures; items = ks } ∷ []) (kinds_said (scope_for_modes old.program.now old.locals.items) xs),
  );
}

-- all items
pub items_done : {old mid new : Generator} {p q : Lined} {here next : Here} (xs : List PrintItem) → HasGrown old mid → MakesItems mid new p q here next xs → MakesAll old new p q here xs
items_done xs g m = record {
  grows = grows_then g m.grows;
  adds = m.adds;
  more = λ f t u around located good. (m.more f t u around located good).deep;
}
