-- What a well-typed program says of a set, and of a class of notices.
use Rattle.std.proofs.Common.{◌≡◌, ℕ, zero, suc, ◌<◌, true, List, [], ◌∷◌, length, Option, Some, None, refl, sym, ap, ◌∙◌, subst}
use Rattle.std.proofs.lemmas.Bool.{lt-ltb}
use Rattle.std.proofs.lemmas.List.Elements.{All-nil, All-cons}
use Rattle.ss_machine_instructions.proofs.Common.{Discipline, every_get, Fifo, HasMemberKeys, IsFittingStore, IsRuled, Layout, Lifo, Mode, modes_of, Notice, Program, Ranked, Seen, SetLayout, slice_get_within}
use Rattle.std.specs.Prelude.{◌&&◌, slice_get}
use Rattle.std.specs.List.{All, AllZip, list_all}
use Rattle.ss_meaning.specs.Store.{Store, Notices}
use Rattle.ss_base.specs.declared.layout.RankKey.{RankKey}
use Rattle.ss_world.specs.Sets.{member_in}
use Rattle.ss_program.specs.WellTyped.{IsWellTyped, kind_of_class, AreTypedKeys, IsTypedDiscipline, IsTypedEvent}
use Rattle.ss_meaning.specs.Events.{Ranked as RankedClass, ranked_from, ranked}
use Rattle.ss_meaning.specs.Sets.{is_field, is_fit}
use Rattle.ss_meaning.proofs.Entities.{HasField, field_said, class_said}
use Rattle.ss_meaning.proofs.Events.{RankedAs, ranked_there}
use Rattle.ss_meaning.proofs.Fine.{There}
use Rattle.ss_machine_events.specs.Scheduled.{IsNoticeClass, HasKeyField as HasKey}

-- ## Keys

key_within : (p : Program) (c : ℕ) (key : RankKey) (keys : List RankKey) → AreTypedKeys p c (key ∷ keys) → key.field < length (modes_of p.layout c)
key_within p c key keys h =
    let there : HasField p c key.field h.0.0 = field_said p c key.field h.0.0 h.0.1 in
    slice_get_within (modes_of p.layout c) key.field h.0.0 there.field

pub keys_within : (p : Program) (c : ℕ) (keys : List RankKey) → AreTypedKeys p c keys → All (λ (k : RankKey). k.field < length (modes_of p.layout c)) keys
keys_within p c [] h = All-nil (λ (k : RankKey). k.field < length (modes_of p.layout c))
keys_within p c (key ∷ keys) h = All-cons (λ (k : RankKey). k.field < length (modes_of p.layout c)) key keys (key_within p c key keys h) (keys_within p c keys h.1)

keys_fit : (p : Program) (c : ℕ) (keys : List RankKey) → AreTypedKeys p c keys → list_all (is_field p.layout c) keys ≡ true
keys_fit p c [] h = refl
keys_fit p c (key ∷ keys) h =
    ap (λ b. b && list_all (is_field p.layout c) keys) (lt-ltb key.field (length (modes_of p.layout c)) (key_within p c key keys h)) ∙ keys_fit p c keys h.1

-- ## A set is ordered by its discipline

discipline_at : (p : Program) (sets : List SetLayout) (ds : List Discipline) (k : ℕ) (t : SetLayout) → AllZip (IsTypedDiscipline p) sets ds → slice_get sets k ≡ Some t → (d : Discipline) × (slice_get ds k ≡ Some d) × IsTypedDiscipline p t d
discipline_at p [] ds k t h q = absurd cc
discipline_at p (u ∷ us) [] k t h q = absurd h
discipline_at p (u ∷ us) (d ∷ ds) zero t h q = let same : u ≡ t = cc in (d, refl, subst (λ v. IsTypedDiscipline p v d) same h.0)
discipline_at p (u ∷ us) (d ∷ ds) (suc k) t h q = discipline_at p us ds k t h.1 q

discipline_fits : (p : Program) (set : ℕ) (t : SetLayout) (d : Discipline) → slice_get p.layout.sets set ≡ Some t → IsTypedDiscipline p t d → is_fit p.layout set d ≡ true
discipline_fits p set t Fifo q g = refl
discipline_fits p set t Lifo q g = refl
discipline_fits p set t (Ranked keys) q g = ap (λ l. list_all (is_field p.layout (member_in l)) keys) q ∙ keys_fit p t.member keys g

discipline_keys : (p : Program) (set : ℕ) (t : SetLayout) (d : Discipline) → slice_get p.layout.sets set ≡ Some t → IsTypedDiscipline p t d → HasMemberKeys p.layout set d
discipline_keys p set t Fifo q g = tt
discipline_keys p set t Lifo q g = tt
discipline_keys p set t (Ranked keys) q g =
    subst (λ c. All (λ (k : RankKey). k.field < length (modes_of p.layout c)) keys) (sym (ap member_in q)) (keys_within p t.member keys g)

pub ruled_in : (p : Program) (typed : IsWellTyped p) (e : Seen) (set : ℕ) (t : SetLayout) → slice_get p.layout.sets set ≡ Some t → e.disciplines ≡ p.disciplines → e.heap.layout ≡ p.layout → IsRuled e set
ruled_in p typed e set t q disciplines layout =
    let d = discipline_at p p.layout.sets p.disciplines set t typed.disciplines q in
    record {
      discipline = d.0;
      there = ap (λ ds. slice_get ds set) disciplines ∙ d.1;
      fits = ap (λ l. is_fit l set d.0) layout ∙ discipline_fits p set t d.0 q d.2;
      keys = subst (λ (l : Layout). HasMemberKeys l set d.0) (sym layout) (discipline_keys p set t d.0 q d.2);
    }

-- ## A class of notices has its rank

pub noticed_in : (p : Program) (typed : IsWellTyped p) (ms : List Mode) (e : Seen) (s : Store) (class : ℕ) → kind_of_class p class ≡ Some Notice → IsFittingStore p ms s → s.world.setting.notices ≡ e.notices → e.heap.layout ≡ p.layout → IsNoticeClass e class
noticed_in p typed ms e s class kind f notices layout = by (ranked class s) refl (ranked_there p typed ms class s kind f)
  where
    within : class < length e.heap.layout.classes
    within =
        let c = class_said p class Notice kind in
        slice_get_within e.heap.layout.classes class c.0 (ap (λ (l : Layout). slice_get l.classes class) layout ∙ c.1)

    good : (r : RankedClass) → RankedAs p.events class r → AreTypedKeys p class r.said.ties
    good r h =
        let event : IsTypedEvent p h.event = every_get (IsTypedEvent p) p.events r.rank h.event typed.events h.there in
        subst (λ (n : Notices). AreTypedKeys p class n.ties) (sym h.said) (subst (λ c. AreTypedKeys p c h.event.ties) h.class event.ties)

    by : (o : Option RankedClass) → ranked class s ≡ o → There (RankedAs p.events class) o → IsNoticeClass e class
    by None q h = absurd h
    by (Some r) q h = record {
      within = within;
      ranked = r;
      is = ap (λ es. ranked_from 0 es class) (sym notices) ∙ q;
      fields = subst (λ (l : Layout). All (HasKey l class) r.said.ties) (sym layout) (keys_within p class r.said.ties (good r h));
    }
