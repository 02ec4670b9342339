-- Small programs with their meaning: entities and sets, in the workshop. Each expected value is worked out from the rules of the language.
use Rattle.std.specs.Prelude.{◌≡◌, ℕ, List, [], ◌∷◌, pos, negsuc, codes, None, false, refl}
use Rattle.ss_base.specs.declared.fault.FaultKind.TheVariants.{NoEntity, NeverCreated, DestroyedEntity, WrongClass, Index, FiledTwice, NotFiled, EmptySet, InASet, OwnsMembers, LoopMemberGone, ZeroDivisor, CreatedTwice, Scheduled}
use Rattle.ss_base.specs.declared.layout.Mode.TheVariants.{Integer}
use Rattle.ss_base.specs.declared.layout.Discipline.TheVariants.{Lifo}
use Rattle.ss_base.specs.Arithmetic.{in_64_bits, plus_of, quotient_of}
use Rattle.ss_picture.specs.Numerals.{numeral}
use Rattle.ss_picture.specs.Pictures.{picture_fields, filled}
use Rattle.ss_program.specs.declared.expression.Variable.TheVariants.{Global, Local}
use Rattle.ss_base.specs.declared.words.Sign.TheVariants.{Plus}
use Rattle.ss_base.specs.declared.words.Operator.TheVariants.{Add, Quotient}
use Rattle.ss_program.specs.declared.expression.SetQuery.TheVariants.{FirstMember, LastMember, MemberCount}
use Rattle.ss_program.specs.declared.expression.MemberQuery.TheVariants.{Predecessor, Successor}
use Rattle.ss_base.specs.declared.words.Relation.TheVariants.{Equal, Less}
use Rattle.ss_base.specs.declared.words.PhraseKind.TheVariants.{With, Unless, Until}
use Rattle.ss_base.specs.declared.words.End.TheVariants as ends_of_sets
use Rattle.ss_program.specs.Program.{Expression, Attribute, OfSystemSet, OfMember, Calculate, TheSystem, Entity, Compare, Numbers, Members, AtEnd, Each, ToAttribute, ToCount, ByDiscipline, At, Statement, Let, Change, Read, For, Find, Create, CreateEvery, Destroy, File, RemoveEnd, Remove, Schedule, Cancel, Program}
use Rattle.ss_meaning.specs.Building.{line, num, global, local, to_global, to_local, block, only, print_line, machine, job, tool, bell, machines, queue, pool, rack, workshop, workshop_by, ends, faults}
use Rattle.ss_meaning.specs.Meaning.{meaning}

-- the rank of the job in its variable
abbrev rank : Expression
rank = Attribute job 0 (global job)

-- FILE JOB IN POOL, by the discipline of the pool
abbrev file_job : ℕ → Statement
file_job l = File (line l) pool (global job) ByDiscipline TheSystem

abbrev create_job : ℕ → Statement
create_job l = Create (line l) job (to_global job)

-- ## Ranked sets and disciplines

-- four jobs read their ranks and are filed; the pool is printed: a job comes after those of its rank
pub a_ranked_set_with_a_tie : meaning (workshop 1
    (For (line 16) (Numbers (Local 0) (num (pos 1)) (num (pos 4)) None) []
    (block (create_job 17 ∷ Read (line 18) (record { place = ToAttribute job 0 (global job); mode = Integer } ∷ []) ∷ file_job 19 ∷ [])) ∷
    For (line 21) (Members (Global job) pool TheSystem AtEnd false) [] (block (print_line 22 (global job ∷ rank ∷ []) (codes "* *") ∷ [])) ∷ []))
    (codes "2 1 2 3") 9 ≡ ends (codes "4 3" ∷ codes "1 2" ∷ codes "3 2" ∷ codes "2 1" ∷ []) 1
unfolding filled picture_fields numeral
a_ranked_set_with_a_tie = refl

-- A1, B1 and C1 come into a LIFO pool, and B1 goes out
pub a_lifo_set : meaning (workshop_by Lifo 3
    (Create (line 16) job (to_local 0) ∷ File (line 17) pool (local 0) ByDiscipline TheSystem ∷
    Create (line 18) job (to_local 1) ∷ File (line 19) pool (local 1) ByDiscipline TheSystem ∷
    Create (line 20) job (to_local 2) ∷ File (line 21) pool (local 2) ByDiscipline TheSystem ∷ Remove (line 22) pool (local 1) TheSystem ∷
    print_line 23 (OfSystemSet MemberCount pool ∷ OfSystemSet FirstMember pool ∷ OfSystemSet LastMember pool ∷ OfMember Successor pool (local 2) ∷
    OfMember Predecessor pool (local 0) ∷ OfMember Successor pool (local 0) ∷ OfMember Predecessor pool (local 2) ∷ []) (codes "* * * * * * *") ∷ []))
    [] 9 ≡ ends (codes "2 3 1 1 3 0 0" ∷ []) 9
unfolding filled picture_fields numeral
a_lifo_set = refl

-- what was printed stays before the fault of an empty set
pub an_empty_set : meaning (workshop 0 (print_line 16 [] (codes "BEFORE") ∷ RemoveEnd (line 18) ends_of_sets.First pool (to_global job) TheSystem ∷ [])) [] 9 ≡
    faults (codes "BEFORE" ∷ []) EmptySet 18 9
unfolding filled picture_fields
an_empty_set = refl

-- ## Permanent entities: two machines are made, and a job is filed in the queue of the first; then comes line 20

abbrev then_at_20 : Statement → Program
then_at_20 s = workshop 0 (Let (line 16) (ToCount machines) (num (pos 2)) ∷ CreateEvery (line 17) (machines ∷ []) ∷ create_job 18 ∷
    File (line 19) queue (global job) ByDiscipline (Entity (num (pos 1))) ∷ s ∷ [])

pub filed_in_two_queues : meaning (then_at_20 (File (line 20) queue (global job) ByDiscipline (Entity (num (pos 2))))) [] 9 ≡ faults [] FiledTwice 20 9
filed_in_two_queues = refl

pub removed_from_another_queue : meaning (then_at_20 (Remove (line 20) queue (global job) (Entity (num (pos 2))))) [] 9 ≡ faults [] NotFiled 20 9
removed_from_another_queue = refl

pub filed_in_the_pool_too : meaning (then_at_20 (file_job 20)) [] 9 ≡ ends [] 9
filed_in_the_pool_too = refl

-- an owner is looked at before the fault FILED TWICE
pub no_third_machine : meaning (then_at_20 (File (line 20) queue (global job) ByDiscipline (Entity (num (pos 3))))) [] 9 ≡ faults [] Index 20 9
no_third_machine = refl

pub machines_made_twice : meaning (then_at_20 (CreateEvery (line 20) (machines ∷ []))) [] 9 ≡ faults [] CreatedTwice 20 9
machines_made_twice = refl

-- N.MACHINE is over once they are made, and that is looked at after the value
pub count_written_after_the_making : meaning (then_at_20 (Let (line 20) (ToCount machines) (num (pos 3)))) [] 9 ≡ faults [] CreatedTwice 20 9
count_written_after_the_making = refl

pub count_written_after_its_value : meaning (then_at_20 (Let (line 20) (ToCount machines) (Calculate Quotient (num (pos 1)) (num (pos 0))))) [] 9 ≡ faults [] ZeroDivisor 20 9
unfolding quotient_of
count_written_after_its_value = refl

-- FOR EACH MACHINE goes over their indices
pub each_machine : meaning (then_at_20 (For (line 20) (Each (Global machine) machine) [] (block (print_line 20 (global machine ∷ []) (codes "*") ∷ [])))) [] 9 ≡
    ends (codes "1" ∷ codes "2" ∷ []) 7
unfolding filled picture_fields numeral
each_machine = refl

-- ## References: J1 is created and destroyed, J2 is created; then comes line 19

abbrev then_at_19 : Statement → Program
then_at_19 s = workshop 2 (Create (line 16) job (to_local 0) ∷ Destroy (line 17) job (local 0) ∷ Create (line 18) job (to_local 1) ∷ s ∷ [])

-- LET RANK(..) = 5
abbrev rank_of : Expression → Statement
rank_of e = Let (line 19) (ToAttribute job 0 e) (num (pos 5))

pub a_destroyed_entity : meaning (then_at_19 (rank_of (local 0))) [] 9 ≡ faults [] DestroyedEntity 19 9
a_destroyed_entity = refl

pub no_entity : meaning (then_at_19 (rank_of (num (pos 0)))) [] 9 ≡ faults [] NoEntity 19 9
no_entity = refl

pub never_created : meaning (then_at_19 (rank_of (num (pos 99)))) [] 9 ≡ faults [] NeverCreated 19 9
never_created = refl

pub below_zero : meaning (then_at_19 (rank_of (num (negsuc 0)))) [] 9 ≡ faults [] NeverCreated 19 9
below_zero = refl

pub a_job_is_no_tool : meaning (then_at_19 (Let (line 19) (ToAttribute tool 0 (local 1)) (num (pos 5)))) [] 9 ≡ faults [] WrongClass 19 9
a_job_is_no_tool = refl

pub no_machine_was_made : meaning (then_at_19 (File (line 19) queue (local 1) ByDiscipline (Entity (num (pos 1))))) [] 9 ≡ faults [] Index 19 9
no_machine_was_made = refl

pub an_attribute_assigned : meaning (then_at_19 (rank_of (local 1))) [] 9 ≡ ends [] 9
an_attribute_assigned = refl

-- LET RANK(0) = DIV.F(1, 0) looks at its target first, and ADD DIV.F(1, 0) TO RANK(0) at its value
pub let_looks_at_its_target_first : meaning (then_at_19 (Let (line 19) (ToAttribute job 0 (num (pos 0))) (Calculate Quotient (num (pos 1)) (num (pos 0))))) [] 9 ≡ faults [] NoEntity 19 9
let_looks_at_its_target_first = refl

pub add_looks_at_its_value_first : meaning (then_at_19 (Change (line 19) Plus (ToAttribute job 0 (num (pos 0))) (Calculate Quotient (num (pos 1)) (num (pos 0))))) [] 9 ≡ faults [] ZeroDivisor 19 9
unfolding quotient_of
add_looks_at_its_value_first = refl

-- ## Destroying: a job is in the rack of a tool, and a bell is scheduled; then come further lines

abbrev then_from_21 : List Statement → Program
then_from_21 ss = workshop 0 (Create (line 16) tool (to_global tool) ∷ create_job 17 ∷
    File (line 18) rack (global job) ByDiscipline (Entity (global tool)) ∷ Create (line 19) bell (to_global bell) ∷
    Schedule (line 20) bell (global bell) [] (At (num (pos 7))) ∷ ss)

pub a_member_may_not_go : meaning (then_from_21 (Destroy (line 21) job (global job) ∷ [])) [] 9 ≡ faults [] InASet 21 9
a_member_may_not_go = refl

pub an_owner_may_not_go : meaning (then_from_21 (Destroy (line 21) tool (global tool) ∷ [])) [] 9 ≡ faults [] OwnsMembers 21 9
an_owner_may_not_go = refl

pub a_pending_notice_may_not_go : meaning (then_from_21 (Destroy (line 21) bell (global bell) ∷ [])) [] 9 ≡ faults [] Scheduled 21 9
a_pending_notice_may_not_go = refl

pub all_go : meaning (then_from_21 (Remove (line 21) rack (global job) (Entity (global tool)) ∷ Destroy (line 22) job (global job) ∷ Destroy (line 23) tool (global tool) ∷
    Cancel (line 24) bell (global bell) ∷ Destroy (line 25) bell (global bell) ∷ [])) [] 9 ≡ ends [] 9
all_go = refl

-- ## Going over members

-- FOR I = 1 TO n, CREATE A JOB, LET RANK = r, FILE JOB IN POOL
abbrev jobs_filed : ℕ → (r : Expression) → Statement
jobs_filed n r = For (line 16) (Numbers (Local 0) (num (pos 1)) (num (pos n)) None) []
    (block (create_job 16 ∷ Let (line 16) (ToAttribute job 0 (global job)) r ∷ file_job 16 ∷ []))

-- FOR EACH JOB IN POOL, REMOVE .. FROM POOL, and N.POOL
abbrev removing : Expression → Program
removing e = workshop 1 (jobs_filed 3 (num (pos 0)) ∷
    For (line 17) (Members (Global job) pool TheSystem AtEnd false) [] (block (Remove (line 17) pool e TheSystem ∷ [])) ∷
    print_line 18 (OfSystemSet MemberCount pool ∷ []) (codes "*") ∷ [])

-- the next member is fixed before a turn, so each may go in its own turn
pub each_member_removed : meaning (removing (global job)) [] 9 ≡ ends (codes "0" ∷ []) 3
unfolding filled picture_fields numeral
each_member_removed = refl

-- and where the next one goes, it is gone as its turn comes, before its tick
pub the_next_member_removed : meaning (removing (Calculate Add (global job) (num (pos 1)))) [] 9 ≡ faults [] LoopMemberGone 17 5
unfolding plus_of in_64_bits
the_next_member_removed = refl

pub the_next_member_gone_without_a_tick : meaning (removing (Calculate Add (global job) (num (pos 1)))) [] 4 ≡ faults [] LoopMemberGone 17 0
unfolding plus_of in_64_bits
the_next_member_gone_without_a_tick = refl

-- FOR EACH JOB IN POOL WITH RANK LT 4 UNLESS RANK = 3 UNTIL RANK = r, FIND THE FIRST CASE
abbrev finding : ℕ → Program
finding r = workshop 1 (jobs_filed 4 (local 0) ∷
    Find (line 17) (Members (Global job) pool TheSystem AtEnd false)
    (record { kind = With; condition = only (Compare Less rank (num (pos 4))) } ∷ record { kind = Unless; condition = only (Compare Equal rank (num (pos 3))) } ∷
    record { kind = Until; condition = only (Compare Equal rank (num (pos r))) } ∷ [])
    (block (print_line 18 (global job ∷ []) (codes "FOUND *") ∷ [])) (block (print_line 20 (global job ∷ []) (codes "NONE *") ∷ [])) ∷ [])

pub a_case_is_found : meaning (finding 1) [] 9 ≡ ends (codes "FOUND 2" ∷ []) 2
unfolding filled picture_fields numeral
a_case_is_found = refl

-- where a phrase ends the loop there is none, though the variable holds the candidate
pub no_case_is_found : meaning (finding 2) [] 9 ≡ ends (codes "NONE 2" ∷ []) 2
unfolding filled picture_fields numeral
no_case_is_found = refl
