-- Pieces put together, and what is around them.
use Rattle.std.proofs.Common.{◌≡◌, ℕ, suc, ◌+◌, ◌<◌, ◌≤◌, ◌^◌, List, [], ◌∷◌, ◌++◌, length, Result, Ok, Err, refl, sym, ap, ◌∙◌, subst, arith, append_assoc, append-nil}
use Rattle.std.specs.Prelude.{OnOk}
use Rattle.ss_code_generator.proofs.Common.{code_of, Generator, HasPrintModes, height, Instruction, IsCarriedOut, Line, Lined, no_code, on_line, place, Placed, Site, Value, view_program}
use Rattle.ss_code_generator.specs.Emitted.{Final, HasAdded, HasGenerated, HasGrown, HasNoMore, IsAround, IsLocated, IsRunBy, AreAllRun}
use Rattle.ss_code_instructions.specs.declared.instruction.Instruction.{Instruction as Running}
use Rattle.ss_code_generator.specs.declared.generator.Site.{Site as Here}

-- ## What is around more is around less

pub around_less : {f : Final} {old new : Generator} (more : List Value) → new.constants.items ≡ old.constants.items ++ more → old.deepest ≤ new.deepest → new.program.now ≡ old.program.now → IsAround f new → IsAround f old
around_less {f} {old} more constants depth program a = record {
  program = sym (ap view_program program) ∙ a.program;
  typed = a.typed;
  fixed = a.fixed;
  constants = (more ++ a.constants.0, a.constants.1 ∙ ap (λ (l : List Value). l ++ a.constants.0) constants ∙ append_assoc old.constants.items more a.constants.0);
  depth = omega (arith, depth, a.depth);
  small = a.small;
}

pub around_old : {f : Final} {old new : Generator} → HasGrown old new → IsAround f new → IsAround f old
around_old g a = around_less g.constants.0 g.constants.1 g.depth g.program a

pub grows_same : {g : Generator} → HasGrown g g
grows_same {g = g} = record { program = refl; locals = refl; constants = ([], sym (append-nil g.constants.items)); depth = omega arith }

pub grows_then : {old mid new : Generator} → HasGrown old mid → HasGrown mid new → HasGrown old new
grows_then {old = old} g h = record {
  program = h.program ∙ g.program;
  locals = h.locals ∙ g.locals;
  constants = (
    g.constants.0 ++ h.constants.0,
    h.constants.1 ∙ ap (λ (l : List Value). l ++ h.constants.0) g.constants.1 ∙ append_assoc old.constants.items g.constants.0 h.constants.0,
  );
  depth = omega (arith, g.depth, h.depth);
}

pub stands_old : {f : Final} {old new : Generator} {here : Here} {t : Site} → HasGrown old new → IsLocated f new here t → IsLocated f old here t
stands_old g s = record { program = s.program; locals = s.locals ∙ g.locals; line = s.line; high = s.high; deep = s.deep }

pub stands_new : {f : Final} {old new : Generator} {here : Here} {t : Site} → HasGrown old new → IsLocated f old here t → IsLocated f new here t
stands_new g s = record { program = s.program; locals = s.locals ∙ sym g.locals; line = s.line; high = s.high; deep = s.deep }

-- a site in the same section with so many cells more
pub stands_above : {f : Final} {g : Generator} {here higher : Here} {t u : Site} (k : ℕ) → f.depth < 2 ^ 32 → IsLocated f g here t → higher.line ≡ here.line → (here.height + k < 2 ^ 64 → higher.height ≡ here.height + k) → u.scope ≡ t.scope → u.line ≡ t.line → height u ≡ height t + k → height u ≤ f.depth → IsLocated f g higher u
stands_above {here = here} k small s line above scope same high deep =
    let fits : here.height + k < 2 ^ 64 = omega (arith, small, s.high, high, deep) in
    record {
      program = ap (λ s. s.program) scope ∙ s.program;
      locals = ap (λ s. s.locals) scope ∙ s.locals;
      line = same ∙ s.line ∙ sym line;
      high = high ∙ ap (λ n. n + k) s.high ∙ sym (above fits);
      deep = deep;
    }

-- ## Pieces

pub runs_both : (f : Final) (c d : List Placed) (is js : Lined) → AreAllRun f c is → AreAllRun f d js → AreAllRun f (c ++ d) (is ++ js)
runs_both f [] d [] js h k = k
runs_both f (x ∷ c) d (i ∷ is) js h k = (h.0, h.1, runs_both f c d is js h.2 k)
runs_both f _ d _ js h k = absurd h

pub runs_long : (f : Final) (c : List Placed) (is : Lined) → AreAllRun f c is → length is ≡ length c
runs_long f [] [] h = refl
runs_long f (x ∷ c) (i ∷ is) h = ap suc (runs_long f c is h.2)
runs_long f _ _ h = absurd h

pub adds_none : {f : Final} {p : Lined} → HasAdded f p p []
adds_none {p = p} = record { more = []; added = sym (append-nil p); run = tt }

pub adds_then : {f : Final} {a b c : Lined} {xs ys : List Placed} → HasAdded f a b xs → HasAdded f b c ys → HasAdded f a c (xs ++ ys)
adds_then {f = f} {a = a} {xs = xs} {ys = ys} h k = record {
  more = h.more ++ k.more;
  added = k.added ∙ ap (λ (l : Lined). l ++ k.more) h.added ∙ append_assoc a h.more k.more;
  run = runs_both f xs ys h.more k.more h.run k.run;
}

-- one instruction more
pub adds_one : {f : Final} {a b : Lined} {l : Line} {x : Placed} {y : Running} → b ≡ a ++ on_line l y ∷ [] → x.line ≡ l → IsRunBy f x y → HasAdded f a b (x ∷ [])
adds_one {l = l} {y = y} is same r = record { more = on_line l y ∷ []; added = is; run = (sym same, r, tt) }

-- what is promised of each end, where nothing more is
pub emits : {I : Type 0} {old new : Generator} {p q : Lined} {here : Here} {Fit : Final → Site → I → Type 0} {c : Site → I → List Placed} → HasGrown old new → ((f : Final) (t : Site) (x : I) → IsAround f new → IsLocated f new here t → Fit f t x → HasAdded f p q (c t x)) → HasGenerated old new p q here Fit c HasNoMore
emits grows adds = record { grows = grows; adds = adds; more = λ f t x around located fits. tt }

-- one instruction at each site, where it carries out what fits there
pub emits_one : {I : Type 0} {old new : Generator} {p q : Lined} {here : Here} {Fit : Final → Site → I → Type 0} (make : Site → I → Instruction) (y : Running) → HasGrown old new → q ≡ p ++ on_line here.line y ∷ [] → ((f : Final) (t : Site) (x : I) → IsAround f new → IsLocated f new here t → Fit f t x → IsCarriedOut (code_of f.program) f.constants (place t (make t x)) y × HasPrintModes f.prints t.cells (make t x)) → HasGenerated old new p q here Fit (λ t x. place t (make t x) ∷ []) HasNoMore
emits_one make y grows is runs =
    emits grows (λ f t x around located fits.
    let c = runs f t x around located fits in
    adds_one is located.line (record { carries = c.0; deep = located.deep; shown = c.1 }))

-- a piece that was made apart goes after another one, or before
pub adds_piece : {f : Final} {a b p : Lined} {c : List Placed} → b ≡ a ++ p → HasAdded f no_code p c → HasAdded f a b c
adds_piece {a = a} is h = record { more = h.more; added = is ∙ ap (λ (l : Lined). a ++ l) h.added; run = h.run }

-- two pieces that were made apart
pub adds_apart : {f : Final} {p q r : Lined} {c d : List Placed} → r ≡ p ++ q → HasAdded f no_code p c → HasAdded f no_code q d → HasAdded f no_code r (c ++ d)
adds_apart is h k = adds_then h (adds_piece is k)

pub piece_long : {f : Final} {p : Lined} {c : List Placed} → HasAdded f no_code p c → length p ≡ length c
piece_long {f = f} {c = c} h = ap length h.added ∙ runs_long f c h.more h.run

-- a piece without instructions is that of no place
pub none_there : (f : Final) (p : Lined) (c : List Placed) → HasAdded f no_code p c → length p ≡ 0 → c ≡ []
none_there f p [] h e = refl
none_there f p (x ∷ c) h e = absurd (omega (arith, e, piece_long h))

-- what was added, for another code that is the same
pub adds_same : {f : Final} {a b : Lined} {c d : List Placed} → c ≡ d → HasAdded f a b c → HasAdded f a b d
adds_same {f = f} {a = a} {b = b} e h = subst (HasAdded f a b) e h

-- ## What was made, from an earlier generator on and up to a later one

pub makes_earlier : {I : Type 0} {older old new : Generator} {p q : Lined} {here : Here} {Fit : Final → Site → I → Type 0} {c : Site → I → List Placed} {More : Final → Site → I → Type 0} → HasGrown older old → HasGenerated old new p q here Fit c More → HasGenerated older new p q here Fit c More
makes_earlier g m = record { grows = grows_then g m.grows; adds = m.adds; more = m.more }

pub makes_later : {I : Type 0} {old new newer : Generator} {p q : Lined} {here : Here} {Fit : Final → Site → I → Type 0} {c : Site → I → List Placed} {More : Final → Site → I → Type 0} → HasGrown new newer → HasGenerated old new p q here Fit c More → HasGenerated old newer p q here Fit c More
makes_later g m = record {
  grows = grows_then m.grows g;
  adds = λ f t i around located fits. m.adds f t i (around_old g around) (stands_old g located) fits;
  more = λ f t i around located fits. m.more f t i (around_old g around) (stands_old g located) fits;
}

-- ## Calls that may be out of memory

-- what follows from both clauses of a call
pub both_ok : {T E A B C : Type 0} (r : Result T E) → OnOk r A → OnOk r B → (A → B → C) → OnOk r C
both_ok (Ok x) a b f = f a b
both_ok (Err e) a b f = tt
