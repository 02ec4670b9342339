use Rattle.ss_engine.proofs.Meanings.{reports_grow, endings_stay}
use Rattle.ss_engine.proofs.text_laws.longer_bounds_extend_the_report.Goals as goal

pub returns-clause-reports_grow : goal.returns-clause-reports_grow
returns-clause-reports_grow c = reports_grow c.laws.ensures.one_program c.laws.ensures.never_wrong c.laws_of_pieces.ensures.prefixes

pub returns-clause-endings_stay : goal.returns-clause-endings_stay
returns-clause-endings_stay c = endings_stay c.laws.ensures.never_wrong c.laws_of_pieces.ensures.endings_stay
