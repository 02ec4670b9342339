-- Loops, from the pieces that they are made of.
use Rattle.std.proofs.Common.{◌≡◌, ℕ, ◌+◌, ◌-◌, ◌<◌, ◌≤◌, ◌^◌, Bool, true, false, List, [], ◌∷◌, ◌++◌, length, Option, Some, None, refl, sym, ap, ◌∙◌, arith, append_assoc, append-nil, length-append}
use Rattle.std.specs.Prelude.{IfSome}
use Rattle.std.specs.List.{AllByRecursion as Every}
use Rattle.ss_code_generator.proofs.Common.{Address, AreNumbers, Bearer, Final, Generator, HasAdded, HasBorne, HasEmitted, HasEmittedAround, HasEmittedAroundBoth, HasGrown, HasMode, Integer, IsAround, IsInFrame, IsInteger, IsLocated, IsSiteBearer, IsTyped, IsTypedCondition, IsTypedHead, IsTypedPhrase, IsVariable, Line, Lined, MemberLoop, no_code, on_line, Placed, TypedScope, Variable, VariableSpot}
use Rattle.ss_code_instructions.specs.Translation.{above, expression_code, for_code, guards_code, height, next, phrases_code, place, Site, forget, loop_code, take_code, turns_code, step_code, range_code, number_loop, walk_loop, owner_cell, owner_kept, begin_code, in_loop, find_code}
use Rattle.ss_program.specs.Program.{Entity, Expression, Guard, Phrase, SetOwner, TheSystem, Start, AtEnd, From, After, Head, Numbers, Members}
use Rattle.ss_code_instructions.specs.declared.instruction.Instruction.TheVariants as r
use Rattle.ss_code_instructions.specs.Instructions as i
use Rattle.ss_code_generator.specs.declared.expressions.Operand.{Operand as Read}
use Rattle.ss_code_generator.specs.declared.generator.Site.{Site as Here}
use Rattle.ss_code_generator.specs.Looped.{loop_width, is_after, begin_of, items_begin, begins_items, item_loop_code, HasTakenLoopItem, HasTakenItems, HasTakenMembers, HasKeptOwner, HasStartedWalk, Walking}
use Rattle.ss_code_generator.proofs.Emitting.{around_old, grows_same, grows_then, stands_old, stands_above, makes_later, adds_none, adds_then, adds_one, adds_piece, adds_same, piece_long, emits}
use Rattle.ss_code_generator.proofs.Operands.{number_at, cell_at_site}
use Rattle.ss_code_generator.proofs.Testing.{owner_number}

-- ## WHILE and UNTIL

abbrev GoodGuards : List Guard → TypedScope → Type 0
GoodGuards gs s = Every (λ (g : Guard). IsTypedCondition s g.condition) gs

pub looped : {g0 g1 g2 : Generator} {here : Here} {body p q again t1 t2 t3 turn whole : Lined} {back : ℕ} (gs : List Guard) → HasEmittedAround g0 g1 no_code again here no_code (GoodGuards gs) (λ t b. guards_code t (length b + 1) gs ++ b) → t1 ≡ no_code ++ on_line here.line r.Turn ∷ [] → t2 ≡ t1 ++ body → t3 ≡ t2 ++ again → back ≡ length t3 → turn ≡ t3 ++ on_line here.line (r.Repeat back) ∷ [] → HasEmittedAround g1 g2 no_code whole here turn (GoodGuards gs) (λ t b. guards_code t (length b + 0) gs ++ b) → q ≡ p ++ whole → HasEmittedAround g0 g2 p q here body (GoodGuards gs) (λ t b. loop_code t gs b)
looped {again = again} {t1} {t3 = t3} {turn} {back = back} gs m first second third back_is last n all =
    emits (grows_then m.grows n.grows) (λ f t b around located fits.
    let G : List Placed = guards_code t 1 gs in
    let guards : HasAdded f no_code again G = adds_same (append-nil G) ((makes_later n.grows m).adds f t [] around located (adds_none, fits.1)) in
    let begun : HasAdded f no_code t1 (place t i.Turn ∷ []) = adds_one first located.line (record { carries = refl; deep = located.deep; shown = tt }) in
    let inner : HasAdded f no_code t3 (place t i.Turn ∷ (b ++ G)) = adds_then begun (adds_then (adds_piece second fits.0) (adds_piece third guards)) in
    let back_long : back ≡ length b + length G + 1 = omega (arith, back_is, piece_long inner, length-append b G) in
    let end : Placed = place t (i.Repeat (length b + length G + 1)) in
    let T : List Placed = place t i.Turn ∷ (b ++ (G ++ end ∷ [])) in
    let ended : HasAdded f t3 turn (end ∷ []) = adds_one last located.line (record { carries = ap i.Repeat (sym back_long); deep = located.deep; shown = tt }) in
    let turned : HasAdded f no_code turn T = adds_same (ap (λ (l : List Placed). place t i.Turn ∷ l) (append_assoc b G (end ∷ []))) (adds_then inner ended) in
    let skip : length T + 0 ≡ length b + length G + 2 = omega (arith, length-append b (G ++ end ∷ []), length-append G (end ∷ [])) in
    adds_piece all (adds_same (ap (λ k. guards_code t k gs ++ T) skip) (n.adds f t T around located (turned, fits.1))))

-- ## Members

pub members_taken : {g : Generator} {a b c turn : Lined} {here : Here} (w : MemberLoop) {back : ℕ} → HasTakenLoopItem g no_code a here w.cell w.variable → b ≡ a ++ turn → back ≡ length b → c ≡ b ++ on_line here.line (r.NextMember w.set w.owner w.cell back w.reverse false) ∷ [] → HasTakenMembers g c here w turn
members_taken w {back} m both back_is last =
    emits grows_same (λ f u x around located fits.
    let one = m.adds f u (record { variable = x.variable; cell = x.cell; turn = x.turn }) around located (fits.0.0, fits.0.3) in
    let head : List Placed = take_code u x.cell x.variable in
    let two = adds_piece both fits.1 in
    let long : back ≡ length head + length x.turn = back_is ∙ piece_long (adds_then one two) ∙ length-append head x.turn in
    let same = ap (λ s. i.NextMember w.reverse s x.owner x.cell (length head + length x.turn)) (sym fits.0.1) ∙ ap (i.NextMember w.reverse w.set x.owner x.cell) (sym long) in
    adds_then one (adds_then two (adds_one last located.line (record { carries = (x.owner, fits.0.2, (x.cell, fits.0.3, same)); deep = located.deep; shown = tt }))))

-- ## The head of a loop over numbers

-- the first number, the limit and the step
pub ranged : {g0 g1 g2 g3 : Generator} {p q s v : Lined} {here second third : Here} (a b : Expression) (c : Option Expression) (Also : TypedScope → Type 0) → HasEmitted g0 g1 p q here (IsTyped a) (λ t. expression_code t (next t) a) → HasEmitted g1 g2 q s second (IsTyped b) (λ t. expression_code t (next t) b) → HasEmitted g2 g3 s v third Also (λ t. step_code t c) → second.line ≡ here.line → third.line ≡ here.line → (here.height + 1 < 2 ^ 64 → second.height ≡ here.height + 1) → (here.height + 2 < 2 ^ 64 → third.height ≡ here.height + 2) → here.height < g1.deepest → second.height < g2.deepest → ((s : TypedScope) → AreNumbers c s → Also s) → HasEmitted g0 g3 p v here (λ s. IsInteger a s × IsInteger b s × AreNumbers c s) (λ t. range_code t a b c)
ranged {g1 = g1} {g2} {here = here} a b c Also m n o line1 line2 high1 high2 room1 room2 also =
    emits (grows_then m.grows (grows_then n.grows o.grows)) (λ f t u around located good.
    let around2 = around_old o.grows around in
    let around1 = around_old n.grows around2 in
    let stands2 = stands_old o.grows located in
    let t1 : Site = above t Integer in
    let t2 : Site = above t1 Integer in
    let tall1 : height t1 ≡ height t + 1 = omega arith in
    let tall2 : height t2 ≡ height t + 2 = omega arith in
    let fits : here.height + 1 < 2 ^ 64 = omega (arith, room1, around1.depth, around.small) in
    let deep1 : height t1 ≤ f.depth = omega (arith, tall1, located.high, room1, around1.depth) in
    let deep2 : height t2 ≤ f.depth = omega (arith, tall2, located.high, high1 fits, room2, around2.depth) in
    adds_then (m.adds f t tt around1 (stands_old n.grows stands2) (Integer, good.0))
    (adds_then (n.adds f t1 tt around2 (stands_above 1 around2.small stands2 line1 high1 refl refl tall1 deep1) (Integer, good.1))
    (o.adds f t2 tt around (stands_above 2 around.small located line2 high2 refl refl tall2 deep2) (also t.scope good.2))))

-- ## FOR over numbers, and over a class

-- the instruction with which it begins
items_begun : {f : Final} {g : Generator} {here : Here} {t : Site} (class : Option ℕ) {cell skip n : ℕ} {p q : Lined} → IsLocated f g here t → height (number_loop t) ≤ f.depth → cell ≡ length t.scope.locals + height t → skip ≡ n → q ≡ p ++ on_line here.line (items_begin class cell skip) ∷ [] → HasAdded f p q (begins_items t class n ∷ [])
items_begun {t = t} None located deep at long put = adds_one put located.line (record { carries = (height t, at, ap (i.Begin (height t)) (sym long)); deep = deep; shown = tt })
items_begun {t = t} (Some class) located deep at long put = adds_one put located.line (record { carries = (height t, at, ap (i.BeginClass class (height t)) (sym long)); deep = located.deep; shown = tt })

pub items_looped : {g0 g : Generator} {p q q1 q2 : Lined} {here above_here : Here} (class : Option ℕ) {cell skip : ℕ} {spot : VariableSpot} {turn items : Lined} {x : Variable} → above_here.line ≡ here.line → (here.height + 3 < 2 ^ 64 → above_here.height ≡ here.height + 3) → HasGrown g0 g → above_here.height ≤ g.deepest → cell ≡ length g.locals.items + here.height → ((f : Final) (h : Here) (t : Site) → IsAround f g → IsLocated f g h t → IsVariable t x spot) → HasTakenItems g items above_here cell spot turn → skip ≡ length items → q ≡ p ++ on_line here.line (items_begin class cell skip) ∷ [] → q1 ≡ q ++ items → HasEmitted g g q1 q2 above_here (λ s. Unit {0}) (λ u. forget u 3) → HasEmittedAround g0 g p q2 here turn (λ s. Unit {0}) (λ t b. item_loop_code t class x b)
items_looped {g = g} {q1 = q1} {q2} {here} {above_here} class {items = items} {x} line up grows room at is m skip_is put join forgets =
    emits grows (λ f t body around located fits.
    let u : Site = number_loop t in
    let fit : here.height + 3 < 2 ^ 64 = omega (arith, located.high, located.deep, around.small) in
    let tall : height u ≡ height t + 3 = omega arith in
    let deep : height u ≤ f.depth = omega (arith, tall, located.high, up fit, room, around.depth) in
    let on_top : IsLocated f g above_here u = stands_above 3 around.small located line up refl refl tall deep in
    let turns : List Placed = turns_code u (height t) x body (i.Next (height t)) in
    let made : HasAdded f no_code items turns = m.adds f u (record { variable = x; cell = height t; turn = body }) around on_top ((is f above_here u around on_top, number_at located at), fits.0) in
    let three : height u - height t ≡ 3 = omega arith in
    adds_then (items_begun class located deep (number_at located at) (skip_is ∙ piece_long made) put)
    (adds_then (adds_piece join made) (adds_same (ap (forget u) (sym three)) (forgets.adds f u tt around on_top tt))))

-- numbers have a range before that
pub range_looped : {g0 g1 g2 : Generator} {p q s turn : Lined} {here : Here} (x : Variable) (a b : Expression) (c : Option Expression) → HasEmitted g0 g1 p q here (λ k. IsInteger a k × IsInteger b k × AreNumbers c k) (λ t. range_code t a b c) → HasEmittedAround g1 g2 q s here turn (λ k. Unit {0}) (λ t body. item_loop_code t None x body) → HasEmittedAround g0 g2 p s here turn (λ k. IsTypedHead k (Numbers x a b c)) (λ t body. for_code t (Numbers x a b c) body)
range_looped x a b c m n =
    emits (grows_then m.grows n.grows) (λ f t body around located fits.
    adds_then ((makes_later n.grows m).adds f t tt around located (fits.1.1, fits.1.2, are_numbers c t.scope fits.1.3)) (n.adds f t body around located (fits.0, tt)))
  where
    are_numbers : (c : Option Expression) (s : TypedScope) → IfSome c (λ e. HasMode s e Integer) → AreNumbers c s
    are_numbers None s h = tt
    are_numbers (Some e) s h = h

-- ## FOR over members

-- the owner stays in a cell
pub system_kept : {g0 g1 : Generator} {p q : Lined} {here : Here} (o : Read) → HasBorne g0 g1 p q here None o → HasKeptOwner g0 g1 p q here TheSystem o
system_kept o m = record {
  grows = m.grows;
  adds = m.adds;
  more = λ f t u around located good. let k = m.more f t u around located good in (k.at, k.high, k.deep);
}

pub entity_kept : {g0 g1 g2 : Generator} {p q : Lined} {here : Here} (e : Expression) {a : Address} → HasEmitted g0 g1 p q here (IsTyped e) (λ t. expression_code t (next t) e) → here.height < g1.deepest → HasGrown g1 g2 → IsInFrame (length g2.locals.items + here.height) a → HasKeptOwner g0 g2 p q here (Entity e) (record { address = a; cells = 1 })
entity_kept e m room grows cell = record {
  grows = grows_then m.grows grows;
  adds = λ f t u around located good. (makes_later grows m).adds f t u around located (Integer, good);
  more = λ f t u around located good.
      let mine = around_old grows around in
      let tall : height (owner_cell t (Entity e)) ≡ height t + 1 = omega arith in
      (cell_at_site located cell, tall, omega (arith, tall, located.high, room, mine.depth));
}

-- no member goes into a cell
pub starts_at_end : {g : Generator} {p : Lined} {here : Here} (w : MemberLoop) → HasStartedWalk g g p p here w AtEnd
starts_at_end w = emits grows_same (λ f u x around located fits. adds_none)

-- the owner is looked at, and a member goes into the next cell
pub starts_at : {g0 g : Generator} {p q s : Lined} {here : Here} (w : MemberLoop) (e : Expression) → q ≡ p ++ on_line here.line (r.LookOwner w.set w.owner) ∷ [] → HasEmitted g0 g q s here (IsTyped e) (λ t. expression_code t (next t) e) → HasStartedWalk g0 g p s here w (From e)
starts_at w e put m =
    emits m.grows (λ f u x around located fits.
    adds_then (adds_one put located.line (record { carries = (x.owner, fits.0.2, ap (λ k. i.LookOwner k x.owner) (sym fits.0.1)); deep = located.deep; shown = tt }))
    (m.adds f u tt around located (Integer, fits.1)))

-- the instruction that begins a walk from a member, or after it
begins_at : {f : Final} {g : Generator} {here : Here} {u : Site} (w : MemberLoop) {set : ℕ} (owner : Bearer) (after : Bool) {skip n : ℕ} {p q : Lined} → IsLocated f g here u → height u + 1 ≤ f.depth → w.set ≡ set → IsSiteBearer f u owner w.owner → w.cell ≡ length u.scope.locals + height u → skip ≡ n → q ≡ p ++ on_line here.line (r.BeginAt w.set w.owner w.cell skip w.reverse after) ∷ [] → HasAdded f p q (place (above u Integer) (i.BeginAt w.reverse after set owner (height u) n) ∷ [])
begins_at {f} {u = u} w {set} owner after {skip} {n} located deep is at cell long put =
    let tall : height (above u Integer) ≤ f.depth = omega (arith, deep) in
    let same : i.BeginAt w.reverse after set owner (height u) n ≡ i.BeginAt w.reverse after w.set owner (height u) skip = cc in
    adds_one put located.line (record { carries = (owner, at, (height u, cell, same)); deep = tall; shown = tt })

-- the instruction that begins a walk
begins : {f : Final} {g : Generator} {here : Here} {u : Site} (w : MemberLoop) {set : ℕ} (owner : Bearer) (start : Start) {skip n : ℕ} {p q : Lined} → IsLocated f g here u → height u + 1 ≤ f.depth → w.set ≡ set → IsSiteBearer f u owner w.owner → w.cell ≡ length u.scope.locals + height u → skip ≡ n → q ≡ p ++ on_line here.line (begin_of w (is_after start) skip) ∷ [] → HasAdded f p q (begin_code u w.reverse set owner start n ∷ [])
begins {u = u} w {set} owner AtEnd {skip} {n} located deep is at cell long put =
    let same : i.BeginSet w.reverse set owner (height u) n ≡ i.BeginSet w.reverse w.set owner (height u) skip = cc in
    adds_one put located.line (record { carries = (owner, at, (height u, cell, same)); deep = located.deep; shown = tt })
begins w owner (From e) located deep is at cell long put = begins_at w owner false located deep is at cell long put
begins w owner (After e) located deep is at cell long put = begins_at w owner true located deep is at cell long put

pub members_walked : {g0 g1 g2 g3 : Generator} {p q q1 q2 q3 q4 : Lined} {here below_here above_here : Here} (w : MemberLoop) (cells : ℕ) {turn members : Lined} {x : Variable} {set : ℕ} (o : SetOwner) (start : Start) {skip count : ℕ} → HasKeptOwner g0 g1 p q here o (record { address = w.owner; cells = cells }) → below_here.line ≡ here.line → (here.height + cells < 2 ^ 64 → below_here.height ≡ here.height + cells) → w.cell ≡ length g1.locals.items + below_here.height → ((f : Final) (h : Here) (t : Site) → IsAround f g1 → IsLocated f g1 h t → IsVariable t x w.variable) → w.set ≡ set → HasStartedWalk g1 g2 q q1 below_here w start → above_here.line ≡ below_here.line → (below_here.height + 2 < 2 ^ 64 → above_here.height ≡ below_here.height + 2) → HasGrown g2 g3 → above_here.height ≤ g3.deepest → HasTakenMembers g3 members above_here w turn → skip ≡ length members → q2 ≡ q1 ++ on_line here.line (begin_of w (is_after start) skip) ∷ [] → q3 ≡ q2 ++ members → (cells + 2 < 2 ^ 64 → count ≡ cells + 2) → HasEmitted g3 g3 q3 q4 above_here (λ s. Unit {0}) (λ u. forget u count) → HasEmittedAround g0 g3 p q4 here turn (λ s. IsTypedHead s (Members x set o start w.reverse)) (λ t b. for_code t (Members x set o start w.reverse) b)
members_walked {g3 = g3} {q1 = q1} {here = here} {below_here} {above_here} w cells {members = members} {x} {set} o start {skip} {count} keeps below_line below_height at variable of_set starts above_line above_height reaches room takes skips put joins counts forgets =
    emits (grows_then keeps.grows (grows_then starts.grows reaches)) (λ f t b around located fits.
    let later = grows_then starts.grows reaches in
    let around1 = around_old later around in
    let keeps' = makes_later later keeps in
    let good : IsTypedHead t.scope (Members x set o start w.reverse) = fits.1 in
    let numbers = owner_number t.scope set o good.1 in
    let keep = keeps'.more f t tt around located numbers in
    let u : Site = owner_cell t o in
    let v : Site = walk_loop t o in
    let bearer : Bearer = owner_kept t o in
    let low : IsLocated f g3 below_here u = stands_above cells around.small located below_line below_height refl refl keep.1 keep.2 in
    let fit : below_here.height + 2 < 2 ^ 64 = omega (arith, low.high, low.deep, around.small) in
    let tall : height v ≡ height u + 2 = omega arith in
    let deep : height v ≤ f.depth = omega (arith, tall, low.high, above_height fit, room, around.depth) in
    let high : IsLocated f g3 above_here v = stands_above 2 around.small low above_line above_height refl refl tall deep in
    let cell = number_at (stands_old later low) at in
    let walk : Walking = record { variable = x; set = set; owner = bearer; cell = height u; turn = b } in
    let begun = (makes_later reaches starts).adds f u walk around low ((variable f below_here u around1 (stands_old later low), of_set, keep.0, cell), good.2) in
    let taken = takes.adds f v walk around high ((variable f above_here v around1 (stands_old later high), of_set, keep.0, cell), fits.0) in
    let deeper : height u + 1 ≤ f.depth = omega (arith, deep, tall) in
    let begin = begins w bearer start low deeper of_set keep.0 cell (skips ∙ piece_long taken) (put ∙ ap (λ (l : Line). q1 ++ on_line l (begin_of w (is_after start) skip) ∷ []) (sym below_line)) in
    let few : cells + 2 < 2 ^ 64 = omega (arith, keep.1, keep.2, around.small) in
    let same : count ≡ height v - height t = omega (arith, counts few, tall, keep.1) in
    adds_then (keeps'.adds f t tt around located numbers) (adds_then begun (adds_then begin (adds_then (adds_piece joins taken) (adds_same (ap (forget v) same) (forgets.adds f v tt around high tt))))))

-- ## In a loop

-- how many cells it keeps
pub loop_high : (t : Site) (head : Head) → height (in_loop t head) ≡ height t + loop_width head
loop_high t (Members x set TheSystem start reverse) = omega arith
loop_high t _ = omega arith

few_kept : (head : Head) → loop_width head ≤ 3
few_kept (Members x set TheSystem start reverse) = omega arith
few_kept _ = omega arith

-- the cells that it keeps are there
pub loop_stands : {f : Final} {g0 g1 : Generator} {here above_here : Here} {t : Site} (head : Head) {cells : ℕ} → cells ≡ loop_width head → above_here.line ≡ here.line → (here.height + cells < 2 ^ 64 → above_here.height ≡ here.height + cells) → above_here.height ≤ g0.deepest → IsAround f g0 → IsAround f g1 → IsLocated f g1 here t → IsLocated f g1 above_here (in_loop t head)
loop_stands {f} {here = here} {t = t} head {cells} wide line up room around0 around located =
    let u : Site = in_loop t head in
    let tall : height u ≡ height t + cells = loop_high t head ∙ ap (λ k. height t + k) (sym wide) in
    let fits : here.height + cells < 2 ^ 64 = omega (arith, located.high, located.deep, around.small, wide, few_kept head) in
    let deep : height u ≤ f.depth = omega (arith, tall, located.high, up fits, room, around0.depth) in
    stands_above cells around.small located line up refl refl tall deep

-- a loop with phrases around what is done for each case
pub for_looped : {f : Final} {g1 g2 g3 g4 : Generator} {p q inner turn : Lined} {here above_here : Here} (head : Head) (ps : List Phrase) {cells : ℕ} {t : Site} {body : List Placed} → cells ≡ loop_width head → above_here.line ≡ here.line → (here.height + cells < 2 ^ 64 → above_here.height ≡ here.height + cells) → above_here.height ≤ g1.deepest → HasGrown g1 g2 → (IsAround f g2 → IsLocated f g2 above_here (in_loop t head) → HasAdded f no_code inner body) → HasEmittedAround g2 g3 no_code turn above_here inner (λ s. Every (IsTypedPhrase s) ps) (λ t b. phrases_code t ps b) → HasEmittedAround g3 g4 p q here turn (λ s. IsTypedHead s head) (λ t b. for_code t head b) → IsAround f g4 → IsLocated f g4 here t → IsTypedHead t.scope head → Every (IsTypedPhrase t.scope) ps → HasAdded f p q (for_code t head (phrases_code (in_loop t head) ps body))
for_looped {f} head ps {t = t} {body} wide line up room grows1 m n o around located good each =
    let around3 = around_old o.grows around in
    let around2 = around_old n.grows around3 in
    let high3 = loop_stands head wide line up room (around_old grows1 around2) around3 (stands_old o.grows located) in
    let u : Site = in_loop t head in
    o.adds f t (phrases_code u ps body) around located (n.adds f u body around3 high3 (m around2 (stands_old n.grows high3), each), good)

-- ## FIND

pub found_or_not : {g0 g1 g2 g3 : Generator} {p q q1 q2 q3 q4 : Lined} {here above_here : Here} (head : Head) (ps : List Phrase) {cells skip past_skip : ℕ} {found none case turn : Lined} → cells ≡ loop_width head → above_here.line ≡ here.line → (here.height + cells < 2 ^ 64 → above_here.height ≡ here.height + cells) → HasGrown g0 g1 → above_here.height ≤ g1.deepest → skip ≡ length none + 3 → HasEmitted g1 g1 no_code case above_here (λ s. Unit {0}) (λ t. place t (i.Jump skip) ∷ []) → HasEmittedAround g1 g2 no_code turn above_here case (λ s. Every (IsTypedPhrase s) ps) (λ t b. phrases_code t ps b) → HasEmittedAround g2 g3 p q here turn (λ s. IsTypedHead s head) (λ t b. for_code t head b) → q1 ≡ q ++ none → past_skip ≡ length found + 1 → q2 ≡ q1 ++ on_line here.line (r.Jump past_skip) ∷ [] → HasEmitted g3 g3 q2 q3 above_here (λ s. Unit {0}) (λ u. forget u cells) → q4 ≡ q3 ++ found → HasEmittedAroundBoth g0 g3 p q4 here found none (λ s. IsTypedHead s head × Every (IsTypedPhrase s) ps) (λ t b. find_code t head ps b.first b.second)
found_or_not {g1 = g1} {above_here = above_here} head ps {cells} {skip} {past_skip} wide line up reaches room skip_is m n o first past_is second forgets third =
    emits (grows_then reaches (grows_then n.grows o.grows)) (λ f t b around located fits.
    let u : Site = in_loop t head in
    let long : skip ≡ length b.second + 3 = skip_is ∙ ap (λ k. k + 3) (piece_long fits.1) in
    let past_long : past_skip ≡ length b.first + 1 = past_is ∙ ap (λ k. k + 1) (piece_long fits.0) in
    let jump = λ (around1 : IsAround f g1) (high1 : IsLocated f g1 above_here u). adds_same (ap (λ k. place u (i.Jump k) ∷ []) long) (m.adds f u tt around1 high1 tt) in
    let loops = for_looped head ps wide line up room grows_same jump n o around located fits.2.0 fits.2.1 in
    let high3 = loop_stands head wide line up room (around_old (grows_then n.grows o.grows) around) around located in
    let count : cells ≡ height u - height t = omega (arith, loop_high t head, wide) in
    adds_then loops (adds_then (adds_piece first fits.1)
    (adds_then (adds_one second located.line (record { carries = ap i.Jump (sym past_long); deep = located.deep; shown = tt }))
    (adds_then (adds_same (ap (forget u) count) (forgets.adds f u tt around high3 tt)) (adds_piece third fits.0)))))
