use Rattle.std.proofs.Common.{rules, ◌≡◌, ◌∙◌, ℤ, List, Ok, ap, sym, subst, to_z, of_z, w64, arith}
use Rattle.std.specs.List.{All}
use Rattle.std.proofs.lemmas.Option.{slice_get_within}
use Rattle.ss_base.specs.declared.layout.RankKey.{RankKey}
use Rattle.ss_base.specs.declared.value.Value.TheVariants.{Whole}
use Rattle.std.specs.Prelude.{slice_get}
use Rattle.ss_world.specs.SortKey.{SortKey}
use Rattle.ss_meaning.specs.Events.{ties_of}
use Rattle.ss_machine_world.specs.Seen.{with_seen}
use Rattle.ss_machine_events.specs.Scheduled.{HasKeyField, IsDoneIf, scheduled_known}
use Rattle.ss_machine_events.proofs.Filing.{said_there, files}
use Rattle.ss_machine_events.proofs.scheduling.schedule_tied.Goals as goal

pub keys_of-keys-requires : goal.keys_of-keys-requires
keys_of-keys-requires c =
    let k = c.requires.notices in let es = c.args.world.now.notices in
    let rank : c.rank-rank.result ≡ k.ranked.rank = c.rank-rank.ensures k.ranked k.is in
    omega (arith, rank, slice_get_within es k.ranked.rank k.ranked.said (said_there es c.args.class k.ranked k.is))

pub frozen-requires-clause-fields : goal.frozen-requires-clause-fields
frozen-requires-clause-fields c =
    let k = c.requires.notices in let e = c.args.world.now in
    let rank : c.rank-rank.result ≡ k.ranked.rank = c.rank-rank.ensures k.ranked k.is in
    let keys : c.keys_of-keys.result.now ≡ k.ranked.said.ties = c.keys_of-keys.ensures k.ranked.said (ap (slice_get e.notices) rank ∙ said_there e.notices c.args.class k.ranked k.is) in
    subst (λ (ks : List RankKey). All (HasKeyField e.heap.layout c.args.class) ks) (sym keys) k.fields

pub returns-in-Ok : goal.returns-in-Ok
returns-in-Ok c =
    let k = c.requires.notices in let class = c.args.class in let n = c.args.notice in let time = c.args.time in let e = c.args.world.now in
    let new = c.file_under.new.world in let b = c.file_under.result in
    let number : to_z w64 (of_z w64 n) ≡ n = search rules in
    let same : to_z w64 (of_z w64 time) ≡ time = search rules in
    let rank : c.rank-rank.result ≡ k.ranked.rank = c.rank-rank.ensures k.ranked k.is in
    let keys : c.keys_of-keys.result.now ≡ k.ranked.said.ties = c.keys_of-keys.ensures k.ranked.said (ap (slice_get e.notices) rank ∙ said_there e.notices class k.ranked k.is) in
    let key : c.with_ties.result ≡ record { time = time; rank = k.ranked.rank; ties = c.in-Ok.ties.items } = c.with_ties.ensures ∙ (λ i. record { time = same i; rank = rank i; ties = c.in-Ok.ties.items }) in
    files e class n time k c.requires.known c.in-Ok.ties.items new b
    (λ s. ap (ties_of class (Whole n) (with_seen s e)) (sym keys) ∙ subst (λ (m : ℤ). ties_of class (Whole m) (with_seen s e) c.keys_of-keys.result.now ≡ Ok c.in-Ok.ties.items) number (c.in-Ok.ensures s))
    (subst (λ (key : SortKey). IsDoneIf (scheduled_known key n) b e new) key
    (subst (λ (m : ℤ). IsDoneIf (scheduled_known c.with_ties.result m) b e new) number c.file_under.ensures))
