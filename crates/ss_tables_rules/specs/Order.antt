-- The order of breaches: by the rule, and then by the line.
use Rattle.std.specs.Prelude.{ℕ}
use Rattle.ss_tables_rules.specs.declared.error.TableError.{TableError}
use Rattle.ss_tables_rules.specs.declared.error.TableError.TheVariants as e

abbrev pub table_error_order : TableError → ℕ × ℕ
table_error_order (e.Twice line) = (51, line.0)
table_error_order (e.RealMode line) = (52, line.0)
table_error_order (e.UnknownClass line) = (53, line.0)
table_error_order (e.UnknownSet line) = (54, line.0)
table_error_order (e.NoOwner line) = (55, line.0)
table_error_order (e.NoMember line) = (56, line.0)
table_error_order (e.RankKey line) = (57, line.0)
table_error_order (e.TallyTwice line) = (58, line.0)
table_error_order (e.TooMany line) = (59, line.0)
table_error_order (e.TieKey line) = (60, line.0)
table_error_order e.Memory = (61, 0)
