-- The code of PRINT: its items, of which means are looked at in their place, and its lines.
use Rattle.std.proofs.Common.{◌≡◌, ℕ, suc, ◌+◌, false, List, [], ◌∷◌, ◌++◌, length, Option, Some, None, Ok, Err, ℤ, refl, sym, ap, ◌∙◌, subst, arith, map}
use Rattle.std.specs.Prelude.{slice_get, Result as OkOr}
use Rattle.ss_code_instructions.proofs.Common.{act, AMean, AMeanOf, AValue, cells_of_kinds, Code, core_at, did, Expression, Fails, Failure, fit, Frame, if_ok, Integer, Is, is_due, Item, item_before, ItemKind, Line, Lines, look, looked, Mean, mean, mean_item, Moved, onward, outcome_then, Placed, print_lines, printed, PrintItem, RunState, send, Sends, ShowsMean, ShowsMeanOf, ShowsValue, Stays, Store, sure, turned, TypeError, Value, values_shown}
use Rattle.ss_code_instructions.specs.Translation.{above, expression_code, expression_mode, height, items_code, lines_of_items, next, place, Site, with_cells, after_items, item_kind}
use Rattle.ss_meaning.specs.Expressions.{value, mean_shown, shown_items}
use Rattle.ss_meaning.specs.Statements.{print}
use Rattle.ss_code_instructions.specs.Instructions as i
use Rattle.ss_code_instructions.proofs.Keeping.{Only, each, made_from}
use Rattle.ss_code_instructions.proofs.Steps.{here, at}
use Rattle.ss_code_instructions.proofs.Parts.{writes, step_leads, did_leads, at_end, Runs, same, done, put_on, onto, seq_look, alike, none, look_lands, above as above_cells}
use Rattle.ss_code_instructions.proofs.Expressions.{value_runs}
use Rattle.ss_code_instructions.proofs.Looking.{fit_did}
use Rattle.ss_code_instructions.proofs.Members.{top_cell}
use Rattle.ss_code_instructions.proofs.Giving.{turned_runs}
use Rattle.ss_code_instructions.proofs.Stacked.{block_takes}
use Rattle.ss_code_instructions.proofs.Following.{IfWentOn, seq_such}

-- ## What items leave in cells

-- a reference to the entity of a mean, which is looked at
abbrev mean_of_value : (statistic : ℕ) → Expression → Store → OkOr Value Failure
mean_of_value j e s = if_ok (value e s) (λ x. turned (λ (m : ℤ × ℤ). x) (mean j (Some x) s))

-- the values that items take, each mean looked at in its place
abbrev values_looked : List PrintItem → Store → OkOr (List Value) Failure
values_looked [] s = Ok []
values_looked (AValue e ∷ xs) s = if_ok (value e s) (λ v. turned (λ vs. v ∷ vs) (values_looked xs s))
values_looked (AMean j ∷ xs) s = if_ok (mean j None s) (λ m. values_looked xs s)
values_looked (AMeanOf j e ∷ xs) s = if_ok (mean_of_value j e s) (λ x. turned (λ vs. x ∷ vs) (values_looked xs s))

abbrev AsMany : ℕ → List Value → Type 0
AsMany k vs = k ≡ length vs

-- one value more
one_many : {A : Type 0} (k : ℕ) (r : OkOr A Failure) (f : A → Value) (o : OkOr (List Value) Failure) → Only (AsMany k) o → Only (AsMany (1 + k)) (if_ok r (λ a. turned (λ vs. f a ∷ vs) o))
one_many k r f o h =
    each (AsMany (1 + k)) r _ (λ a. made_from (AsMany (1 + k)) (AsMany k) (λ vs. f a ∷ vs) o h (λ vs q. let e : 1 + k ≡ suc (length vs) = omega (arith, q) in e))

none_many : {A : Type 0} (k : ℕ) (r : OkOr A Failure) (o : OkOr (List Value) Failure) → Only (AsMany k) o → Only (AsMany (0 + k)) (if_ok r (λ a. o))
none_many k r o h = let e : k ≡ 0 + k = omega arith in each (AsMany (0 + k)) r _ (λ a. subst (λ j. Only (AsMany j) o) e h)

-- they are as many as the items take
many_looked : (xs : List PrintItem) (s : Store) → Only (AsMany (cells_of_kinds (map item_kind xs))) (values_looked xs s)
many_looked [] s = refl
many_looked (AValue e ∷ xs) s = one_many (cells_of_kinds (map item_kind xs)) (value e s) (λ v. v) (values_looked xs s) (many_looked xs s)
many_looked (AMean j ∷ xs) s = none_many (cells_of_kinds (map item_kind xs)) (mean j None s) (values_looked xs s) (many_looked xs s)
many_looked (AMeanOf j e ∷ xs) s = one_many (cells_of_kinds (map item_kind xs)) (mean_of_value j e s) (λ v. v) (values_looked xs s) (many_looked xs s)

looked_such : {A : Type 0} (P : A → Type 0) (l : Line) (r : OkOr A Failure) (w : RunState) → Only P r → IfWentOn P (looked l r w)
looked_such P l (Ok a) w h = h
looked_such P l (Err (Fails kind)) w h = tt
looked_such P l (Err TypeError) w h = tt

-- ## The items that are made of them

-- an item before others
before_sure : (x : Item) (o : Option (List Item)) → sure (item_before (Some x) o) ≡ turned (λ xs. x ∷ xs) (sure o)
before_sure x None = refl
before_sure x (Some xs) = refl

module _ (s : Store) (ks : List ItemKind) (others : OkOr (List Item) Failure) where
  -- the items after one are those that are shown
  abbrev IsShown : OkOr (List Value) Failure → Type 0
  IsShown o = if_ok o (λ vs. sure (values_shown ks vs s)) ≡ others

  value_shown : (r : OkOr Value Failure) (o : OkOr (List Value) Failure) → IsShown o → if_ok (if_ok r (λ v. turned (λ vs. v ∷ vs) o)) (λ vs. sure (values_shown (ShowsValue ∷ ks) vs s)) ≡ if_ok (turned Is r) (λ x. turned (λ xs. x ∷ xs) others)
  value_shown (Err t) o h = refl
  value_shown (Ok v) (Err t) h = ap (turned (λ xs. Is v ∷ xs)) h
  value_shown (Ok v) (Ok vs) h = before_sure (Is v) (values_shown ks vs s) ∙ ap (turned (λ xs. Is v ∷ xs)) h

  mean_alone_shown : (j : ℕ) (o : OkOr (List Value) Failure) → IsShown o → (r : OkOr (ℤ × ℤ) Failure) → mean j None s ≡ r → if_ok (if_ok r (λ m. o)) (λ vs. sure (values_shown (ShowsMean j ∷ ks) vs s)) ≡ if_ok (mean_shown r) (λ x. turned (λ xs. x ∷ xs) others)
  mean_alone_shown j o h (Err t) e = refl
  mean_alone_shown j (Err t) h (Ok m) e = ap (turned (λ xs. Mean m.0 m.1 ∷ xs)) h
  mean_alone_shown j (Ok vs) h (Ok m) e =
      first vs
      ∙ (ap (λ q. sure (item_before (mean_item q) (values_shown ks vs s))) e
      ∙ (before_sure (Mean m.0 m.1) (values_shown ks vs s) ∙ ap (turned (λ xs. Mean m.0 m.1 ∷ xs)) h))
    where
      first : (vs : List Value) → sure (values_shown (ShowsMean j ∷ ks) vs s) ≡ sure (item_before (mean_item (mean j None s)) (values_shown ks vs s))
      first [] = refl
      first (v ∷ vs) = refl

  mean_of_shown : (j : ℕ) (r : OkOr Value Failure) (o : OkOr (List Value) Failure) → IsShown o → if_ok (if_ok (if_ok r (λ x. turned (λ (m : ℤ × ℤ). x) (mean j (Some x) s))) (λ x. turned (λ vs. x ∷ vs) o)) (λ vs. sure (values_shown (ShowsMeanOf j ∷ ks) vs s)) ≡ if_ok (if_ok r (λ x. mean_shown (mean j (Some x) s))) (λ x. turned (λ xs. x ∷ xs) others)
  mean_of_shown j (Err t) o h = refl
  mean_of_shown j (Ok x) (Err t) h = from (mean j (Some x) s)
    where
      from : (q : OkOr (ℤ × ℤ) Failure) → if_ok (if_ok (turned (λ (m : ℤ × ℤ). x) q) (λ x. turned (λ vs. x ∷ vs) (Err t))) (λ vs. sure (values_shown (ShowsMeanOf j ∷ ks) vs s)) ≡ if_ok (mean_shown q) (λ x. turned (λ xs. x ∷ xs) others)
      from (Err u) = refl
      from (Ok m) = ap (turned (λ xs. Mean m.0 m.1 ∷ xs)) h
  mean_of_shown j (Ok x) (Ok vs) h = from (mean j (Some x) s) refl
    where
      from : (q : OkOr (ℤ × ℤ) Failure) → mean j (Some x) s ≡ q → if_ok (if_ok (turned (λ (m : ℤ × ℤ). x) q) (λ x. turned (λ vs. x ∷ vs) (Ok vs))) (λ vs. sure (values_shown (ShowsMeanOf j ∷ ks) vs s)) ≡ if_ok (mean_shown q) (λ x. turned (λ xs. x ∷ xs) others)
      from (Err u) e = refl
      from (Ok m) e =
          ap (λ q. sure (item_before (mean_item q) (values_shown ks vs s))) e
          ∙ (before_sure (Mean m.0 m.1) (values_shown ks vs s) ∙ ap (turned (λ xs. Mean m.0 m.1 ∷ xs)) h)

-- of the values that items take, what their kinds show is what the items mean
items_shown : (xs : List PrintItem) (s : Store) → if_ok (values_looked xs s) (λ vs. sure (values_shown (map item_kind xs) vs s)) ≡ shown_items xs s
items_shown [] s = refl
items_shown (AValue e ∷ xs) s = value_shown s (map item_kind xs) (shown_items xs s) (value e s) (values_looked xs s) (items_shown xs s)
items_shown (AMean j ∷ xs) s = mean_alone_shown s (map item_kind xs) (shown_items xs s) j (values_looked xs s) (items_shown xs s) (mean j None s) refl
items_shown (AMeanOf j e ∷ xs) s = mean_of_shown s (map item_kind xs) (shown_items xs s) j (value e s) (values_looked xs s) (items_shown xs s)

-- ## PRINT

if_twice : {A B D : Type 0} (r : OkOr A Failure) (f : A → OkOr B Failure) (g : B → OkOr D Failure) → if_ok (if_ok r f) g ≡ if_ok r (λ a. if_ok (f a) g)
if_twice (Ok a) f g = refl
if_twice (Err t) f g = refl

-- the lines with the items that kinds and values make
abbrev lines_shown : List ItemKind → List (List ℕ) → List Value → Store → OkOr (List ℕ) Failure
lines_shown ks pictures vs s = if_ok (sure (values_shown ks vs s)) (λ xs. sure (printed pictures xs))

lines_meant : (xs : List PrintItem) (pictures : List (List ℕ)) (s : Store) → if_ok (values_looked xs s) (λ vs. lines_shown (map item_kind xs) pictures vs s) ≡ if_ok (shown_items xs s) (λ ys. sure (printed pictures ys))
lines_meant xs pictures s =
    sym (if_twice (values_looked xs s) (λ vs. sure (values_shown (map item_kind xs) vs s)) (λ ys. sure (printed pictures ys)))
    ∙ ap (λ o. if_ok o (λ ys. sure (printed pictures ys))) (items_shown xs s)

then_sent : {A : Type 0} (l : Line) (r : OkOr A Failure) (g : A → Store → OkOr (List ℕ) Failure) (w : RunState) → outcome_then (looked l r w) (λ a w. outcome_then (look l (g a) w) send) ≡ outcome_then (looked l (if_ok r (λ a. g a w.store)) w) send
then_sent l (Err (Fails k)) g w = refl
then_sent l _ g w = refl

fit_lines : (l : Line) (o : Option (List Item)) (pictures : List (List ℕ)) (go : List ℕ → Moved) → fit o (λ xs. fit (printed pictures xs) go) ≡ did l (if_ok (sure o) (λ xs. sure (printed pictures xs))) go
fit_lines l None pictures go = refl
fit_lines l (Some xs) pictures go = fit_did l (printed pictures xs) go

module _ (code : Code) (n : ℕ) where
  -- an instruction that writes the bytes that a look gives
  pub output_runs : (h : ℕ) (x : Placed) (before : List Value → List Value) (f : Store → OkOr (List ℕ) Failure) → is_due x.instruction ≡ false → ((p : ℕ) (cells : List Value) (frames : List Frame) (s : Store) → length cells ≡ h → act code x.line x.instruction (core_at p (before cells) frames s) ≡ did x.line (f s) (λ bytes. Sends bytes (core_at (p + 1) cells frames s))) → Runs code n h before (x ∷ []) done (λ w. outcome_then (look x.line f w) send)
  output_runs h x before f calm e = record {
    by = λ p cells frames w high has in_.
        step_leads code x (core_at p (before cells) frames w.store) w _ _ has.0 calm (e p cells frames w.store high)
        (did_leads code x.line (f w.store) _ w (λ (o : Unit {0}) w'. at (p + 1) cells frames w') frames send (λ bytes q. writes here));
  }

  -- the look at a mean, of which nothing stays
  mean_looks : (t : Site) (j : ℕ) → Runs code n (height t) same (place t (i.LookMean j None) ∷ []) (λ (m : ℤ × ℤ) cells. cells) (look t.line (mean j None))
  mean_looks t j = look_lands code n (height t) (place t (i.LookMean j None)) same at_end (λ (m : ℤ × ℤ) cells. cells) (mean j None) refl (λ p cells frames s high. refl)

  -- an item whose mean is that of an entity, which stays
  mean_stays : (t : Site) (j : ℕ) (x : Value) → Runs code n (height t) (put_on x) (place (above t Integer) (i.LookMean j (Some (Stays (height t)))) ∷ []) put_on (look t.line (λ s. turned (λ (m : ℤ × ℤ). x) (mean j (Some x) s)))
  mean_stays t j x =
      turned_runs code n put_on (λ (m : ℤ × ℤ). x) t.line (mean j (Some x))
      (look_lands code n (height t) (place (above t Integer) (i.LookMean j (Some (Stays (height t))))) (put_on x) at_end (λ (m : ℤ × ℤ). put_on x) (mean j (Some x)) refl (λ p cells frames s high.
      ap (λ o. fit o (λ v. did t.line (mean j (Some v) s) (λ _. onward (x ∷ cells) (core_at p (x ∷ cells) frames s) s))) (top_cell (height t) x cells high)))

  mean_runs : (t : Site) (j : ℕ) (e : Expression) → Runs code n (height t) same (expression_code t (next t) e ++ place (above t Integer) (i.LookMean j (Some (Stays (height t)))) ∷ []) put_on (look t.line (mean_of_value j e))
  mean_runs t j e =
      seq_look code n (height t) t.line (value e) (λ x s. turned (λ (m : ℤ × ℤ). x) (mean j (Some x) s)) (value_runs code n t e) (λ x. mean_stays t j x)

  -- items leave the values that they take
  items_run : (t : Site) (xs : List PrintItem) → Runs code n (height t) same (items_code t xs) onto (look t.line (values_looked xs))
  items_run t [] = none code n (height t) {after = onto} []
  items_run t (AValue e ∷ xs) =
      seq_look code n (height t) t.line (value e) (λ v s. turned (λ vs. v ∷ vs) (values_looked xs s)) (value_runs code n t e) (λ v.
      turned_runs code n onto (λ vs. v ∷ vs) t.line (values_looked xs)
      (above_cells code n (height t) (put_on v) (suc (height t)) (λ cells q. ap suc q) (items_run (with_cells t (expression_mode t.scope e ∷ t.cells)) xs)))
  items_run t (AMean j ∷ xs) =
      seq_look code n (height t) t.line (mean j None) (λ m s. values_looked xs s) (mean_looks t j) (λ m. items_run (with_cells t t.cells) xs)
  items_run t (AMeanOf j e ∷ xs) =
      seq_look code n (height t) t.line (mean_of_value j e) (λ x s. turned (λ vs. x ∷ vs) (values_looked xs s)) (mean_runs t j e) (λ x.
      turned_runs code n onto (λ vs. x ∷ vs) t.line (values_looked xs)
      (above_cells code n (height t) (put_on x) (suc (height t)) (λ cells q. ap suc q) (items_run (with_cells t (Integer ∷ t.cells)) xs)))

  -- the lines, from the values in cells
  lines_run : (u : Site) (h first : ℕ) (xs : List PrintItem) (pictures : List (List ℕ)) (vs : List Value) → slice_get code.prints first ≡ Some (lines_of_items xs pictures) → AsMany (cells_of_kinds (map item_kind xs)) vs → Runs code n h (onto vs) (place u (i.Print first h) ∷ []) done (λ w. outcome_then (look u.line (lines_shown (map item_kind xs) pictures vs) w) send)
  lines_run u h first xs pictures vs has many =
      let ks : List ItemKind = map item_kind xs in
      output_runs h (place u (i.Print first h)) (onto vs) (lines_shown ks pictures vs) refl (λ p cells frames s high.
      ap (λ o. fit o (λ (q : Lines). print_lines q h (core_at p (onto vs cells) frames s))) has
      ∙ block_takes vs cells (cells_of_kinds ks) h (λ us below. fit (values_shown ks us s) (λ ys. fit (printed pictures ys) (λ bytes. Sends bytes (core_at (p + 1) below frames s)))) many high
      ∙ fit_lines u.line (values_shown ks vs s) pictures (λ bytes. Sends bytes (core_at (p + 1) cells frames s)))

  pub print_runs : (t : Site) (first : ℕ) (xs : List PrintItem) (pictures : List (List ℕ)) → slice_get code.prints first ≡ Some (lines_of_items xs pictures) → Runs code n (height t) same (items_code t xs ++ place (after_items t xs) (i.Print first (height t)) ∷ []) done (print t.line xs pictures)
  print_runs t first xs pictures has =
      let ks : List ItemKind = map item_kind xs in
      alike code n (height t) (λ w. then_sent t.line (values_looked xs w.store) (lines_shown ks pictures) w ∙ ap (λ o. outcome_then (looked t.line o w) send) (lines_meant xs pictures w.store))
      (seq_such code n (height t) {mid = onto} (AsMany (cells_of_kinds ks)) (λ w. looked_such (AsMany (cells_of_kinds ks)) t.line (values_looked xs w.store) w (many_looked xs w.store)) (items_run t xs) (λ vs many.
      lines_run (after_items t xs) (height t) first xs pictures vs has many))
