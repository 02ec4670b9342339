use Rattle.std.proofs.Common.{inl, ap, subst, sym}
use Rattle.ss_records_entities.proofs.Common.{IsNumber, plain}
use Rattle.ss_records_entities.proofs.Assigns.{notice_inside}
use Rattle.ss_records_entities.proofs.records.Records.time_word.Goals as goal

pub number-class-requires : goal.number-class-requires
number-class-requires c = subst IsNumber (sym (c.requires.kept.formed c.requires.entry.0 c.args.place (inl c.requires.entry.1)).class) tt

pub values_end-requires : goal.values_end-requires
values_end-requires c = rw (sym (ap plain c.number-class.ensures)) (notice_inside c.args.self.now.layout.classes _ c.requires.notice)
