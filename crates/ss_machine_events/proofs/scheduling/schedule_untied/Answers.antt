use Rattle.std.proofs.Common.{rules, ◌≡◌, ◌∙◌, ℤ, [], subst, to_z, of_z, w64}
use Rattle.ss_world.specs.SortKey.{SortKey}
use Rattle.ss_machine_events.specs.Scheduled.{IsDoneIf, scheduled_known}
use Rattle.ss_machine_events.proofs.Filing.{files_untied}
use Rattle.ss_machine_events.proofs.scheduling.schedule_untied.Goals as goal

pub returns : goal.returns
returns c =
    let k = c.requires.notices in let n = c.args.notice in let time = c.args.time in let e = c.args.world.now in
    let new = c.file_under.new.world in let b = c.file_under.result in
    let number : to_z w64 (of_z w64 n) ≡ n = search rules in
    let same : to_z w64 (of_z w64 time) ≡ time = search rules in
    let rank : c.rank-rank.result ≡ k.ranked.rank = c.rank-rank.ensures k.ranked k.is in
    let key : c.with_ties.result ≡ record { time = time; rank = k.ranked.rank; ties = [] } = c.with_ties.ensures ∙ (λ i. record { time = same i; rank = rank i; ties = c.new.ensures.items i }) in
    files_untied e c.args.class n time k c.requires.known c.requires.untied new b
    (subst (λ (key : SortKey). IsDoneIf (scheduled_known key n) b e new) key
    (subst (λ (m : ℤ). IsDoneIf (scheduled_known c.with_ties.result m) b e new) number c.file_under.ensures))
