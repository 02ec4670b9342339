-- Values that go into cells, and what loops keep there.
use Rattle.std.proofs.Common.{◌≡◌, ℕ, ◌+◌, ◌<◌, ◌≤◌, ◌^◌, List, [], ◌∷◌, ◌++◌, length, get_or, map, take, refl, sym, ap, ◌∙◌, subst, arith, append_assoc, append-nil, length-append}
use Rattle.ss_code_generator.proofs.Common.{above, Address, after_values, Constant, Expression, expression_code, expression_mode, Final, Generator, HasEmitted, HasGrown, HasTakenItems, HasTakenLoopItem, height, IsAround, IsInFrame, IsLocated, IsSiteOperand, IsTyped, Lined, next, no_code, on_line, place, Placed, pos, Site, take_code, values_code, values_high, VariableSpot, view_expression, Whole}
use Rattle.std.specs.List.{AllByRecursion as Every}
use Rattle.ss_program.specs.declared.expression.Expression as expressions
use Rattle.ss_code_instructions.specs.declared.instruction.Instruction.TheVariants as r
use Rattle.ss_code_instructions.specs.Instructions as i
use Rattle.ss_code_generator.specs.declared.generator.Site.{Site as Here}
use Rattle.ss_code_generator.proofs.Emitting.{around_old, grows_same, grows_then, stands_above, makes_later, adds_then, adds_one, adds_piece, adds_same, piece_long, emits_one, emits}
use Rattle.ss_code_generator.proofs.Operands.{cell_at_site}
use Rattle.ss_code_generator.proofs.Listed.{every_split}
use Rattle.ss_code_pieces.proofs.Steps.{next_taken, taken_long}

-- ## Values

-- the number 1 in the next cell
pub one_pushed : {old new : Generator} {p q : Lined} {here : Here} (a one : Address) → HasGrown old new → IsInFrame (length new.locals.items + here.height) a → ((f : Final) (t : Site) → IsAround f new → IsSiteOperand f t (Constant (Whole (pos 1))) one) → q ≡ p ++ on_line here.line (r.Move one a) ∷ [] → HasEmitted old new p q here (λ s. Unit {0}) (λ t. place t (i.Move (Constant (Whole (pos 1))) (next t)) ∷ [])
one_pushed a one grows cell at made =
    emits_one (λ t u. i.Move (Constant (Whole (pos 1))) (next t)) (r.Move one a) grows made (λ f t u around located typed.
    ((Constant (Whole (pos 1)), at f t around, (refl, (next t, cell_at_site located cell, refl))), tt))

-- one value more, on top of others
values_code_more : (t : Site) (es : List Expression) (e : Expression) → values_code t (es ++ e ∷ []) ≡ values_code t es ++ expression_code (after_values t es) (next (after_values t es)) e
values_code_more t [] e = append-nil (expression_code t (next t) e)
values_code_more t (x ∷ es) e =
    let u : Site = above t (expression_mode t.scope x) in
    let last : List Placed = expression_code (after_values u es) (next (after_values u es)) e in
    ap (λ (c : List Placed). expression_code t (next t) x ++ c) (values_code_more u es e) ∙ sym (append_assoc (expression_code t (next t) x) (values_code u es) last)

-- where the values lie
pub values_stand : {f : Final} {mid new : Generator} {here higher : Here} {t : Site} (es : List Expression) → HasGrown mid new → here.height + length es ≤ mid.deepest → higher.line ≡ here.line → (here.height + length es < 2 ^ 64 → higher.height ≡ here.height + length es) → IsAround f new → IsLocated f new here t → IsLocated f new higher (after_values t es)
values_stand {f} {t = t} es g room line up around located =
    let mine = around_old g around in
    let long : height (after_values t es) ≡ length es + height t = values_high t.scope es t.cells in
    let high : height (after_values t es) ≡ height t + length es = omega (arith, long) in
    stands_above (length es) around.small located line up refl refl high (omega (arith, high, located.high, room, mine.depth))

pub values_more : {old mid new : Generator} {p q s : Lined} {here higher : Here} (es : List Expression) (e : Expression) → HasEmitted old mid p q here (λ k. Every (λ x. IsTyped x k) es) (λ t. values_code t es) → here.height + length es ≤ mid.deepest → higher.line ≡ here.line → (here.height + length es < 2 ^ 64 → higher.height ≡ here.height + length es) → HasEmitted mid new q s higher (IsTyped e) (λ t. expression_code t (next t) e) → HasEmitted old new p s here (λ k. Every (λ x. IsTyped x k) (es ++ e ∷ [])) (λ t. values_code t (es ++ e ∷ []))
values_more es e m room line above_ n =
    emits (grows_then m.grows n.grows) (λ f t u around located typed.
    let each = every_split (λ (x : Expression). IsTyped x t.scope) es e typed in
    adds_same (sym (values_code_more t es e))
    (adds_then ((makes_later n.grows m).adds f t tt around located each.0) (n.adds f (after_values t es) tt around (values_stand es n.grows room line above_ around located) each.1)))

-- the values so far, with the next one
pub next_value : {old mid new : Generator} {p q s : Lined} {here higher : Here} (xs : List expressions.Expression) (i : ℕ) {x : expressions.Expression} → i < length xs → x ≡ get_or xs i x → HasEmitted old mid p q here (λ k. Every (λ e. IsTyped e k) (map view_expression (take i xs))) (λ t. values_code t (map view_expression (take i xs))) → here.height + i ≤ mid.deepest → higher.line ≡ here.line → (here.height + i < 2 ^ 64 → higher.height ≡ here.height + i) → HasEmitted mid new q s higher (IsTyped (view_expression x)) (λ t. expression_code t (next t) (view_expression x)) → HasEmitted old new p s here (λ k. Every (λ e. IsTyped e k) (map view_expression (take (i + 1) xs))) (λ t. values_code t (map view_expression (take (i + 1) xs)))
next_value {mid = mid} {here = here} {higher} xs i {x} lt is m room line above_ n =
    let es = map view_expression (take i xs) in
    let long = taken_long view_expression xs i lt in
    let fits : here.height + length es ≤ mid.deepest = omega (arith, long, room) in
    rw (next_taken view_expression xs i x lt is) (values_more es (view_expression x) m fits line (subst (λ (k : ℕ). here.height + k < 2 ^ 64 → higher.height ≡ here.height + k) (sym long) above_) n)

-- ## Items of a loop

-- the item, the turn, and on to the next one
pub items_taken : {g : Generator} {a b c turn : Lined} {here : Here} (n : ℕ) {back : ℕ} {s : VariableSpot} → HasTakenLoopItem g no_code a here n s → b ≡ a ++ turn → back ≡ length b → c ≡ b ++ on_line here.line (r.Next n back) ∷ [] → HasTakenItems g c here n s turn
items_taken n {back} m both long made =
    emits grows_same (λ f u x around located fits.
    let one = m.adds f u x around located fits.0 in
    let head : List Placed = take_code u x.cell x.variable in
    let two = adds_piece both fits.1 in
    let back_is : back ≡ length head + length x.turn = long ∙ piece_long (adds_then one two) ∙ length-append head x.turn in
    adds_then one (adds_then two (adds_one made located.line (record { carries = (x.cell, fits.0.1, ap (i.Next x.cell) (sym back_is)); deep = located.deep; shown = tt }))))
