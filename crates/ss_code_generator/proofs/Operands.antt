-- Operands, and instructions that read them.
use Rattle.std.proofs.Common.{◌≡◌, ℕ, suc, ◌+◌, ◌<◌, ◌^◌, List, [], ◌∷◌, ◌++◌, length, Option, Some, None, Result, Ok, Err, refl, sym, ap, ◌∙◌, subst, arith}
use Rattle.std.specs.Prelude.{IfOk}
use Rattle.ss_code_generator.proofs.Common.{Address, code_of, Expression, Final, Generator, HasBorne, HasEmittedTo, HasGenerated, HasGrown, HasPrintModes, HasReadBy, HasReadOperand, Instruction, IsAround, IsCarriedOut, IsInFrame, IsLocated, IsRead, IsSiteOperand, IsSiteTarget, IsTyped, Lined, Mode, on_line, Operand, Placed, Stays, Taken, TypedScope}
use Rattle.ss_code_instructions.specs.Translation.{after, expression_code, expression_mode, height, next, operand, operand_code, place, Site, stay, with_operand, leaf, or_cell, or_in_cell, unless_leaf}
use Rattle.ss_code_instructions.specs.declared.instruction.Instruction.{Instruction as Running}
use Rattle.ss_code_generator.specs.declared.expressions.Operand.{Operand as Read}
use Rattle.ss_code_generator.specs.declared.generator.Site.{Site as Here}
use Rattle.ss_code_generator.proofs.Emitting.{around_old, grows_then, stands_old, stands_above, adds_then, adds_one, adds_same}

-- ## Addresses

-- the number of the next cell in the frame
pub number_at : {f : Final} {g : Generator} {here : Here} {t : Site} {n : ℕ} → IsLocated f g here t → n ≡ length g.locals.items + here.height → n ≡ length t.scope.locals + height t
number_at {g = g} {t = t} s e = e ∙ sym (ap (λ (l : List Mode). length l + height t) s.locals ∙ ap (λ n. length g.locals.items + n) s.high)

-- the next cell, as a target and as an operand
pub cell_at_site : {f : Final} {g : Generator} {here : Here} {t : Site} {a : Address} → IsLocated f g here t → IsInFrame (length g.locals.items + here.height) a → IsInFrame (length t.scope.locals + height t) a
cell_at_site s h = (h.0, number_at s h.1)

-- an operand has the same address at all sites of a section
pub operand_at : (f : Final) (t u : Site) (y : Operand) (a : Address) → u.scope ≡ t.scope → IsSiteOperand f t y a → IsSiteOperand f u y a
operand_at f t u (Taken k) a e h = (h.0, h.1 ∙ sym (ap (λ s. length s.locals + k) e))
operand_at f t u (Stays k) a e h = (h.0, h.1 ∙ sym (ap (λ s. length s.locals + k) e))
operand_at f t u _ a e h = h

-- an operand that stays lies where it was
pub stays_at : (f : Final) (t : Site) (y : Operand) (a : Address) → IsSiteOperand f t y a → IsSiteOperand f t (stay y) a
stays_at f t (Taken k) a h = h
stays_at f t _ a h = h

-- ## Operands

-- the site after an operand in a cell
pub cell_high : (t : Site) (e : Expression) → leaf e ≡ None → height (after t e) ≡ height t + 1
cell_high t e h =
    let n : suc (height t) ≡ height t + 1 = omega arith in
    ap (λ (o : Option Operand). length (or_in_cell o (expression_mode t.scope e) t.cells)) h ∙ n

-- anything else goes into a cell, which was the next one on the way
pub cell_reads_at : {old mid new : Generator} {p q : Lined} {here : Here} {e : Expression} {a : Address} → leaf e ≡ None → HasGrown mid new → IsInFrame (length mid.locals.items + here.height) a → here.height < mid.deepest → HasEmittedTo old new p q here a (IsTyped e) (λ t x. expression_code t x e) → HasReadOperand old new p q here e (record { address = a; cells = 1 })
cell_reads_at {mid = mid} {e = e} {a = a} none grows cell room m = record {
  grows = m.grows;
  adds = λ f t u around located typed.
      let at : IsSiteTarget f t (next t) a = cell_at_site (stands_old grows located) cell in
      adds_same (sym (ap (λ (o : Option Operand). unless_leaf o (expression_code t (next t) e)) none)) (m.adds f t (next t) around located (at, typed));
  more = λ f t u around located typed.
      let mine : IsAround f mid = around_old grows around in
      let at : IsSiteOperand f t (Taken (height t)) a = cell_at_site (stands_old grows located) cell in
      record {
        at = subst (λ (o : Option Operand). IsSiteOperand f t (or_cell (height t) o) a) (sym none) at;
        high = cell_high t e none;
        deep = omega (arith, cell_high t e none, located.high, room, mine.depth);
      };
}

-- ## An operand, and the instruction that reads it

-- where an operand located
pub read_stands : {f : Final} {g : Generator} {here higher : Here} {t : Site} {e : Expression} {o : Read} → IsAround f g → IsLocated f g here t → IsRead f t e o → higher.line ≡ here.line → (here.height + o.cells < 2 ^ 64 → higher.height ≡ here.height + o.cells) → IsLocated f g higher (after t e)
read_stands {o = o} around located r line above = stands_above o.cells around.small located line above refl refl r.high r.deep

-- the operand, and an instruction that reads it and carries out what fits there
pub one_read : {I : Type 0} {old mid new : Generator} {p q s : Lined} {here : Here} {e : Expression} {o : Read} {Fit More : Final → Site → I → Type 0} (make : Site → I → Operand → Instruction) (y : Running) → HasGrown old mid → HasReadOperand mid new p q here e o → s ≡ q ++ on_line here.line y ∷ [] → ((f : Final) (t : Site) (x : I) → Fit f t x → IsTyped e t.scope) → ((f : Final) (t : Site) (x : I) → IsAround f new → IsLocated f new here t → Fit f t x → IsRead f t e o → IsCarriedOut (code_of f.program) f.constants (place (after t e) (make t x (operand t e))) y × HasPrintModes f.prints (after t e).cells (make t x (operand t e))) → ((f : Final) (t : Site) (x : I) → IsRead f t e o → More f t x) → HasGenerated old new p s here Fit (λ t x. with_operand t e (make t x)) More
one_read make y grows m is typed runs also = record {
  grows = grows_then grows m.grows;
  adds = λ f t x around located fits.
      let read = m.more f t tt around located (typed f t x fits) in
      let c = runs f t x around located fits read in
      adds_then (m.adds f t tt around located (typed f t x fits)) (adds_one is located.line (record { carries = c.0; deep = read.deep; shown = c.1 }));
  more = λ f t x around located fits. also f t x (m.more f t tt around located (typed f t x fits));
}

-- ## Looks, and owners

-- an operand that is not looked at
pub unlooked_reads : {old new : Generator} {p q : Lined} {here : Here} {e : Expression} {o : Read} {Fit : Final → Site → Unit {0} → Type 0} → ((f : Final) (t : Site) (u : Unit {0}) → Fit f t u → IsTyped e t.scope) → HasReadOperand old new p q here e o → HasGenerated old new p q here Fit (λ t u. operand_code t e) (λ f t u. IsRead f t e o)
unlooked_reads typed m = record {
  grows = m.grows;
  adds = λ f t u around located good. m.adds f t u around located (typed f t u good);
  more = λ f t u around located good. m.more f t u around located (typed f t u good);
}

-- an operand is one of an owner
pub entity_borne : {old new : Generator} {p q : Lined} {here : Here} {e : Expression} (o : Read) → HasReadOperand old new p q here e o → HasBorne old new p q here (Some e) o
entity_borne o m = record {
  grows = m.grows;
  adds = λ f t u around located good. m.adds f t u around located (_, good);
  more = λ f t u around located good.
      let r = m.more f t u around located (_, good) in
      record { at = r.at; high = r.high; deep = r.deep };
}
