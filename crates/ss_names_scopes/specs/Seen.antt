-- The scope that a value of the program's type is.
use Rattle.ss_names_scopes.specs.declared.scope.Scope.{Scope as ScopeValue}
use Rattle.ss_names_scopes.specs.Scopes.{Scope}

abbrev pub view_scope : ScopeValue → Scope
view_scope s = record { table = s.names.now; locals = s.locals.now; sections = s.sections.now }
