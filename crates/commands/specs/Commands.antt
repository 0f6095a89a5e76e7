-- The command that the words of a command line make.
use Rattle.std.specs.Prelude.{ℕ, List, drop, slice_get, ◌&&◌, ◌==◌, ◌%◌, nat_le, if◌then◌else◌, Option, Some, None}
use Rattle.std.specs.Prelude.{option_map, option_and_then, codes}
use Rattle.std.specs.Str.{bytes_eq}
use Rattle.rail_base.specs.declared.limits.TheConstants.{MAX_BRANCHINGS, MAX_ROUNDS, MAX_TRIPS}
use Rattle.plain_words.specs.Numbers.{number_up_to, option_number}
use Rattle.command_line.specs.declared.form.Form.{Form}
use Rattle.command_line.specs.declared.form.Form.TheVariants.{Folder, FolderSearch, DaySearch}
use Rattle.command_line.specs.Parts.{Parts, fits, parts_of}
use Rattle.command_line.specs.Texts.{Texts, texts_of}
use Rattle.commands.specs.declared.command.Command.{Command}
use Rattle.commands.specs.declared.command.Command.TheVariants.{Plan, Simulate, Check, Duties, Yards, Costs, Trial}
use Rattle.commands.specs.declared.command.TheConstants.{MAX_SEED, USUAL_NODES, USUAL_ROUNDS}

-- ---- what the texts say

abbrev pub nodes_of : Texts → Option ℕ
nodes_of texts = option_number USUAL_NODES MAX_BRANCHINGS texts.nodes

abbrev pub rounds_of : Texts → Option ℕ
rounds_of texts = option_number USUAL_ROUNDS MAX_ROUNDS texts.rounds

-- the trips of a trial day: an even number from 2 to 400
abbrev pub even_trips : ℕ → Option ℕ
even_trips trips = if nat_le 2 trips && (trips % 2 == 0) then Some trips else None

abbrev pub trips_of : List ℕ → Option ℕ
trips_of text = option_and_then even_trips (number_up_to MAX_TRIPS text)

-- what a trial day is made from, and its trips
abbrev pub numbers_of : List ℕ → List ℕ → Option (ℕ × ℕ)
numbers_of seed trips =
    option_and_then (λ number. option_map (λ count. (number, count)) (trips_of trips)) (number_up_to MAX_SEED seed)

abbrev pub day_of : Texts → Option (ℕ × ℕ)
day_of texts = option_and_then (λ seed. option_and_then (λ trips. numbers_of seed trips) texts.second) texts.first

-- ---- the commands

abbrev pub plan_command : Texts → Option Command
plan_command texts = option_and_then (λ dir. option_and_then (λ nodes. option_map (λ rounds. Plan dir nodes rounds)
    (rounds_of texts)) (nodes_of texts)) texts.first

abbrev pub trial_command : Texts → Option Command
trial_command texts =
    option_and_then (λ day. option_and_then (λ nodes. option_map (λ rounds. Trial day.0 day.1 nodes rounds)
    (rounds_of texts)) (nodes_of texts)) (day_of texts)

-- the commands that have a folder and no options
abbrev pub in_folder : List ℕ → List ℕ → Option Command
in_folder word dir = if bytes_eq word (codes "simulate") then Some (Simulate dir)
    else (if bytes_eq word (codes "check") then Some (Check dir)
    else (if bytes_eq word (codes "duties") then Some (Duties dir)
    else (if bytes_eq word (codes "yards") then Some (Yards dir)
    else (if bytes_eq word (codes "costs") then Some (Costs dir) else None))))

-- what is to come after a command word
abbrev pub form_of : List ℕ → Form
form_of word = if bytes_eq word (codes "plan") then FolderSearch
    else (if bytes_eq word (codes "trial") then DaySearch else Folder)

-- the command of a command word and the texts after it
abbrev pub named : List ℕ → Texts → Option Command
named word texts = if bytes_eq word (codes "plan") then plan_command texts
    else (if bytes_eq word (codes "trial") then trial_command texts else option_and_then (in_folder word) texts.first)

abbrev pub named_plain : List ℕ → Parts → Option Command
named_plain word parts = if fits (form_of word) parts then named word (texts_of parts) else None

-- The command of the words: after the program's name, which is not looked at, the command word and what comes after
-- it. Nothing where the words are not of this form.
abbrev pub command_of : List (List ℕ) → Option Command
command_of words = option_and_then (λ word. named_plain word (parts_of (drop 2 words))) (slice_get words 1)
