-- The numbers of an answer, as the C structs hold them.
use Rattle.std.specs.Prelude.{ℕ, ◌%◌, Bool, not, List, eqb}
use Rattle.std.proofs.Math.Option.{Option}
use Rattle.paper.specs.Answer.{Answer}
use Rattle.paper.specs.Entries.{Result}
use Rattle.paper.specs.Outcome.{changed, searched}
use Rattle.paper.specs.Outcome as outcome
use Rattle.paper.specs.Rows.{Row}
use Rattle.record.specs.Answers.{Changed, Found, Sought}
use Rattle.std.specs.Prelude.{Ok, Err, Some, None}
use Rattle.index_many.specs.Answers.{Searched}
use Rattle.braidhurdle.specs.declared.FoundNumbers.{FoundNumbers}
use Rattle.braidhurdle.specs.declared.ChangedNumbers.{ChangedNumbers}
use Rattle.braidhurdle.specs.declared.SearchedNumbers.{SearchedNumbers}

-- What the paper says of a look-up's numbers, in the struct.
abbrev pub found_in : outcome.Found → FoundNumbers
found_in f = record { refusal = f.refusal; list = f.list; place = f.place; found = f.found; id = f.id; slot = f.slot }

-- What the code lays out: a slot as 32 bits.
abbrev pub found_numbers : Found → FoundNumbers
found_numbers (Some (i, k)) = record { refusal = 0; list = 0; place = 0; found = 1; id = i.0; slot = k.0 % 4294967296 }
found_numbers None = record { refusal = 0; list = 0; place = 0; found = 0; id = 0; slot = 0 }

abbrev pub sought_numbers : Sought → FoundNumbers
sought_numbers (Ok f) = found_numbers f
sought_numbers (Err r) = record { refusal = r.number; list = r.list; place = r.place; found = 0; id = 0; slot = 0 }

-- The same for update, pruning and renumbering.
abbrev pub changed_in : outcome.Changed → ChangedNumbers
changed_in c = record { refusal = c.refusal; list = c.list; place = c.place; records = c.records; names = c.names; last_id = c.last_id; visited = c.visited }

-- How a C function tells the paper's answer.
abbrev pub laid : Answer Result → ChangedNumbers
laid answer = changed_in (changed answer)

abbrev pub changed_numbers : Changed → ChangedNumbers
changed_numbers (Ok s) = record { refusal = 0; list = 0; place = 0; records = s.records; names = s.names; last_id = s.last_id; visited = s.visited }
changed_numbers (Err r) = record { refusal = r.number; list = r.list; place = r.place; records = 0; names = 0; last_id = 0; visited = 0 }

-- The same for a search for many ids.
abbrev pub searched_in : outcome.Searched → SearchedNumbers
searched_in s = record { refusal = s.refusal; list = s.list; place = s.place; found = s.found }

abbrev pub laid_search : Answer (List (Option Row)) → SearchedNumbers
laid_search answer = searched_in (searched answer)

abbrev pub searched_numbers : Searched → SearchedNumbers
searched_numbers (Ok met) = record { refusal = 0; list = 0; place = 0; found = met }
searched_numbers (Err r) = record { refusal = r.number; list = r.list; place = r.place; found = 0 }

-- A number that is not 0 asks for full mode.
abbrev pub full_mode : ℕ → Bool
full_mode full = not (eqb full 0)
