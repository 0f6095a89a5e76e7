-- Words are the plain form of one command at most, whose numbers are within their limits.
use Rattle.std.proofs.Common.{◌≡◌, ℕ, ◌≤◌, Bool, List, [], ◌∷◌, Some, None, ap, refl, sym, subst, get_or, ◌∙◌, arith}
use Rattle.std.specs.Prelude.{codes}
use Rattle.rail_base.specs.declared.limits.TheConstants.{MAX_BRANCHINGS, MAX_CHANGE, MAX_ROUNDS}
use Rattle.rail_csv.specs.Fields.{number_of, time_of}
use Rattle.plain_words.specs.Items.{Form, IsPlain, Item, WordList, values_in}
use Rattle.plain_words.specs.Numbers.{IsOption}
use Rattle.plain_words.specs.Reading.{items_from}
use Rattle.plain_words.proofs.Made.{taken}
use Rattle.desk_commands.specs.declared.command.Command.{Command}
use Rattle.desk_commands.specs.declared.command.Command.TheVariants.{Fleet, Plan, Replan, Urgent, Week}
use Rattle.desk_commands.specs.declared.fleet_planning.FleetPlanning.{FleetPlanning}
use Rattle.desk_commands.specs.declared.fleet_planning.TheConstants.{MAX_NODES_OF_FLEET, MAX_SPLITS_OF_FLEET}
use Rattle.desk_commands.specs.declared.fleet_planning.TheConstants.{USUAL_EVALUATIONS_OF_FLEET, USUAL_NODES_OF_FLEET}
use Rattle.desk_commands.specs.declared.fleet_planning.TheConstants.{USUAL_ROUNDS_OF_FLEET, USUAL_SPLITS_OF_FLEET}
use Rattle.desk_commands.specs.declared.planning.Planning.{Planning}
use Rattle.desk_commands.specs.declared.planning.TheConstants.{MAX_EVALUATIONS, USUAL_EVALUATIONS_OF_PLAN}
use Rattle.desk_commands.specs.declared.planning.TheConstants.{USUAL_NODES_OF_PLAN, USUAL_ROUNDS_OF_PLAN}
use Rattle.desk_commands.specs.declared.replanning.Replanning.{Replanning}
use Rattle.desk_commands.specs.declared.replanning.TheConstants.{USUAL_CHANGE, USUAL_EVALUATIONS_OF_REPLAN}
use Rattle.desk_commands.specs.declared.replanning.TheConstants.{USUAL_NODES_OF_REPLAN, USUAL_ROUNDS_OF_REPLAN}
use Rattle.desk_commands.specs.declared.swapping.Swapping.{Swapping}
use Rattle.desk_commands.specs.declared.week_planning.WeekPlanning.{WeekPlanning}
use Rattle.desk_commands.specs.declared.week_planning.TheConstants.{MAX_DAYS_OF_WEEK, USUAL_EVALUATIONS_OF_WEEK}
use Rattle.desk_commands.specs.declared.week_planning.TheConstants.{USUAL_NODES_OF_WEEK, USUAL_ROUNDS_OF_WEEK}
use Rattle.desk_commands.specs.PlainForm.{IsFleetPlanning, IsMeant, IsPlainForm, IsPlanning, IsReplanning, IsSwapping, IsWeekPlanning}
use Rattle.desk_commands.specs.PlainForm.{command_word, form_for}

-- words are of a form as one list of items at most
pub one_list : (form : Form) (words : WordList) (one other : List Item) → IsPlain form words one → IsPlain form words other
    → one ≡ other
one_list form words one other first second =
    let first_taken : items_from form None words ≡ Some one = ap (items_from form None) first.written ∙ taken form one first.own in
    let second_taken : items_from form None words ≡ Some other = ap (items_from form None) second.written ∙ taken form other second.own in
    let both : Some one ≡ Some other = sym first_taken ∙ second_taken in
    cc

-- an option has one number at most
one_number : (usual most : ℕ) (values : WordList) (one other : ℕ) → IsOption usual most values one
    → IsOption usual most values other → one ≡ other
one_number usual most [] one other first second = first ∙ sym second
one_number usual most (text ∷ []) one other first second = sym first.spelled ∙ second.spelled
one_number usual most (text ∷ again ∷ texts) one other first second = absurd first

-- the plannings of equal parts are equal
made_alike : (d d' : List ℕ) (n n' k k' e e' : ℕ) (p p' : Bool) → d ≡ d' → n ≡ n' → k ≡ k' → e ≡ e' → p ≡ p'
    → ◌≡◌ {A = Planning} (record { dir = d; nodes = n; rounds = k; evaluations = e; tells_progress = p })
    (record { dir = d'; nodes = n'; rounds = k'; evaluations = e'; tells_progress = p' })
made_alike d d' n n' k k' e e' p p' dirs nodes rounds evaluations progress = cc

one_planning_of : (items : List Item) (one other : Planning) → IsPlanning items one → IsPlanning items other → one ≡ other
one_planning_of items one other first second =
    let dirs : ◌≡◌ {A = List (List ℕ)} (one.dir ∷ []) (other.dir ∷ []) = sym first.dir ∙ second.dir in
    let dir : one.dir ≡ other.dir = cc in
    made_alike one.dir other.dir one.nodes other.nodes one.rounds other.rounds one.evaluations other.evaluations
    one.tells_progress other.tells_progress dir
    (one_number USUAL_NODES_OF_PLAN MAX_BRANCHINGS (values_in (codes "--nodes") items) one.nodes other.nodes first.nodes second.nodes)
    (one_number USUAL_ROUNDS_OF_PLAN MAX_ROUNDS (values_in (codes "--rounds") items) one.rounds other.rounds first.rounds second.rounds)
    (one_number USUAL_EVALUATIONS_OF_PLAN MAX_EVALUATIONS (values_in (codes "--evaluations") items) one.evaluations other.evaluations
    first.evaluations second.evaluations)
    (first.progress ∙ sym second.progress)

-- and the swappings of one folder
swapped_alike : (d d' : List ℕ) → d ≡ d' → ◌≡◌ {A = Swapping} (record { dir = d }) (record { dir = d' })
swapped_alike d d' dirs = cc

one_swapping_of : (items : List Item) (one other : Swapping) → IsSwapping items one → IsSwapping items other → one ≡ other
one_swapping_of items one other first second =
    let dirs : ◌≡◌ {A = List (List ℕ)} (one.dir ∷ []) (other.dir ∷ []) = sym first ∙ second in
    let dir : one.dir ≡ other.dir = cc in
    swapped_alike one.dir other.dir dir

-- and the replannings of equal parts
replanned_alike : (d d' : List ℕ) (m m' w w' n n' k k' e e' : ℕ) → d ≡ d' → m ≡ m' → w ≡ w' → n ≡ n' → k ≡ k' → e ≡ e'
    → ◌≡◌ {A = Replanning} (record { dir = d; minute = m; change = w; nodes = n; rounds = k; evaluations = e })
    (record { dir = d'; minute = m'; change = w'; nodes = n'; rounds = k'; evaluations = e' })
replanned_alike d d' m m' w w' n n' k k' e e' dirs minutes changes nodes rounds evaluations = cc

one_replanning_of : (items : List Item) (one other : Replanning) → IsReplanning items one → IsReplanning items other → one ≡ other
one_replanning_of items one other first second =
    let places : ◌≡◌ {A = List (List ℕ)} (one.dir ∷ first.time ∷ []) (other.dir ∷ second.time ∷ []) = sym first.places ∙ second.places in
    let dir : one.dir ≡ other.dir = cc in
    let time : first.time ≡ second.time = cc in
    let minute : one.minute ≡ other.minute = sym first.minute.1 ∙ ap time_of time ∙ second.minute.1 in
    replanned_alike one.dir other.dir one.minute other.minute one.change other.change one.nodes other.nodes one.rounds other.rounds
    one.evaluations other.evaluations dir minute
    (one_number USUAL_CHANGE MAX_CHANGE (values_in (codes "--change") items) one.change other.change first.change second.change)
    (one_number USUAL_NODES_OF_REPLAN MAX_BRANCHINGS (values_in (codes "--nodes") items) one.nodes other.nodes first.nodes second.nodes)
    (one_number USUAL_ROUNDS_OF_REPLAN MAX_ROUNDS (values_in (codes "--rounds") items) one.rounds other.rounds first.rounds second.rounds)
    (one_number USUAL_EVALUATIONS_OF_REPLAN MAX_EVALUATIONS (values_in (codes "--evaluations") items) one.evaluations other.evaluations
    first.evaluations second.evaluations)

-- and the plannings of weeks of equal parts
weeks_alike : (d d' : List ℕ) (m m' n n' k k' e e' : ℕ) → d ≡ d' → m ≡ m' → n ≡ n' → k ≡ k' → e ≡ e'
    → ◌≡◌ {A = WeekPlanning} (record { dir = d; days = m; nodes = n; rounds = k; evaluations = e })
    (record { dir = d'; days = m'; nodes = n'; rounds = k'; evaluations = e' })
weeks_alike d d' m m' n n' k k' e e' dirs days nodes rounds evaluations = cc

one_week_planning_of : (items : List Item) (one other : WeekPlanning) → IsWeekPlanning items one → IsWeekPlanning items other → one ≡ other
one_week_planning_of items one other first second =
    let places : ◌≡◌ {A = List (List ℕ)} (one.dir ∷ first.number ∷ []) (other.dir ∷ second.number ∷ []) = sym first.places ∙ second.places in
    let dir : one.dir ≡ other.dir = cc in
    let number : first.number ≡ second.number = cc in
    let days : one.days ≡ other.days = sym first.days.spelled ∙ ap number_of number ∙ second.days.spelled in
    weeks_alike one.dir other.dir one.days other.days one.nodes other.nodes one.rounds other.rounds one.evaluations other.evaluations
    dir days
    (one_number USUAL_NODES_OF_WEEK MAX_BRANCHINGS (values_in (codes "--nodes") items) one.nodes other.nodes first.nodes second.nodes)
    (one_number USUAL_ROUNDS_OF_WEEK MAX_ROUNDS (values_in (codes "--rounds") items) one.rounds other.rounds first.rounds second.rounds)
    (one_number USUAL_EVALUATIONS_OF_WEEK MAX_EVALUATIONS (values_in (codes "--evaluations") items) one.evaluations other.evaluations
    first.evaluations second.evaluations)

-- and the plannings of fleets of equal parts
fleets_alike : (d d' : List ℕ) (n n' k k' s s' e e' : ℕ) → d ≡ d' → n ≡ n' → k ≡ k' → s ≡ s' → e ≡ e'
    → ◌≡◌ {A = FleetPlanning} (record { dir = d; nodes = n; rounds = k; splits = s; evaluations = e })
    (record { dir = d'; nodes = n'; rounds = k'; splits = s'; evaluations = e' })
fleets_alike d d' n n' k k' s s' e e' dirs nodes rounds splits evaluations = cc

one_fleet_planning_of : (items : List Item) (one other : FleetPlanning) → IsFleetPlanning items one → IsFleetPlanning items other → one ≡ other
one_fleet_planning_of items one other first second =
    let dirs : ◌≡◌ {A = List (List ℕ)} (one.dir ∷ []) (other.dir ∷ []) = sym first.dir ∙ second.dir in
    let dir : one.dir ≡ other.dir = cc in
    fleets_alike one.dir other.dir one.nodes other.nodes one.rounds other.rounds one.splits other.splits one.evaluations other.evaluations dir
    (one_number USUAL_NODES_OF_FLEET MAX_NODES_OF_FLEET (values_in (codes "--nodes") items) one.nodes other.nodes first.nodes second.nodes)
    (one_number USUAL_ROUNDS_OF_FLEET MAX_ROUNDS (values_in (codes "--rounds") items) one.rounds other.rounds first.rounds second.rounds)
    (one_number USUAL_SPLITS_OF_FLEET MAX_SPLITS_OF_FLEET (values_in (codes "--splits") items) one.splits other.splits first.splits second.splits)
    (one_number USUAL_EVALUATIONS_OF_FLEET MAX_EVALUATIONS (values_in (codes "--evaluations") items) one.evaluations other.evaluations
    first.evaluations second.evaluations)

-- two commands of one kind
data AreOfOneKind : Command → Command → Type 0 where
  BothPlan : {one other : Planning} → AreOfOneKind (Plan one) (Plan other)
  BothUrgent : {one other : Swapping} → AreOfOneKind (Urgent one) (Urgent other)
  BothReplan : {one other : Replanning} → AreOfOneKind (Replan one) (Replan other)
  BothWeek : {one other : WeekPlanning} → AreOfOneKind (Week one) (Week other)
  BothFleet : {one other : FleetPlanning} → AreOfOneKind (Fleet one) (Fleet other)

-- words that differ in their first letters differ
letters : (one other : List ℕ) → one ≡ other → get_or one 0 0 ≡ get_or other 0 0
letters one other words = ap (λ (word : List ℕ). get_or word 0 0) words

-- commands of one word are of one kind
one_kind : (one other : Command) → command_word one ≡ command_word other → AreOfOneKind one other
one_kind (Plan one) (Plan other) words = BothPlan
one_kind (Plan one) (Urgent other) words = absurd (omega (arith, letters (codes "plan") (codes "urgent") words))
one_kind (Plan one) (Replan other) words = absurd (omega (arith, letters (codes "plan") (codes "replan") words))
one_kind (Plan one) (Week other) words = absurd (omega (arith, letters (codes "plan") (codes "week") words))
one_kind (Urgent one) (Plan other) words = absurd (omega (arith, letters (codes "urgent") (codes "plan") words))
one_kind (Urgent one) (Urgent other) words = BothUrgent
one_kind (Urgent one) (Replan other) words = absurd (omega (arith, letters (codes "urgent") (codes "replan") words))
one_kind (Urgent one) (Week other) words = absurd (omega (arith, letters (codes "urgent") (codes "week") words))
one_kind (Replan one) (Plan other) words = absurd (omega (arith, letters (codes "replan") (codes "plan") words))
one_kind (Replan one) (Urgent other) words = absurd (omega (arith, letters (codes "replan") (codes "urgent") words))
one_kind (Replan one) (Replan other) words = BothReplan
one_kind (Replan one) (Week other) words = absurd (omega (arith, letters (codes "replan") (codes "week") words))
one_kind (Week one) (Plan other) words = absurd (omega (arith, letters (codes "week") (codes "plan") words))
one_kind (Week one) (Urgent other) words = absurd (omega (arith, letters (codes "week") (codes "urgent") words))
one_kind (Week one) (Replan other) words = absurd (omega (arith, letters (codes "week") (codes "replan") words))
one_kind (Week one) (Week other) words = BothWeek
one_kind (Plan one) (Fleet other) words = absurd (omega (arith, letters (codes "plan") (codes "fleet") words))
one_kind (Urgent one) (Fleet other) words = absurd (omega (arith, letters (codes "urgent") (codes "fleet") words))
one_kind (Replan one) (Fleet other) words = absurd (omega (arith, letters (codes "replan") (codes "fleet") words))
one_kind (Week one) (Fleet other) words = absurd (omega (arith, letters (codes "week") (codes "fleet") words))
one_kind (Fleet one) (Plan other) words = absurd (omega (arith, letters (codes "fleet") (codes "plan") words))
one_kind (Fleet one) (Urgent other) words = absurd (omega (arith, letters (codes "fleet") (codes "urgent") words))
one_kind (Fleet one) (Replan other) words = absurd (omega (arith, letters (codes "fleet") (codes "replan") words))
one_kind (Fleet one) (Week other) words = absurd (omega (arith, letters (codes "fleet") (codes "week") words))
one_kind (Fleet one) (Fleet other) words = BothFleet

-- items mean one command of a kind at most
one_meant : {one other : Command} (items : List Item) → AreOfOneKind one other → IsMeant items one → IsMeant items other → one ≡ other
one_meant items BothPlan first second = ap Plan (one_planning_of items _ _ first second)
one_meant items (BothUrgent {one} {other}) first second = ap Urgent (one_swapping_of items one other first second)
one_meant items BothReplan first second = ap Replan (one_replanning_of items _ _ first second)
one_meant items BothWeek first second = ap Week (one_week_planning_of items _ _ first second)
one_meant items BothFleet first second = ap Fleet (one_fleet_planning_of items _ _ first second)

-- commands of one kind have one form
one_form : {one other : Command} → AreOfOneKind one other → form_for one ≡ form_for other
one_form BothPlan = refl
one_form BothUrgent = refl
one_form BothReplan = refl
one_form BothWeek = refl
one_form BothFleet = refl

pub one_command : (words : WordList) (one other : Command) → IsPlainForm words one → IsPlainForm words other → one ≡ other
one_command words one other first second =
    let lists : ◌≡◌ {A = WordList} (first.program ∷ command_word one ∷ first.rest) (second.program ∷ command_word other ∷ second.rest) =
    sym first.written ∙ second.written in
    let rest : first.rest ≡ second.rest = cc in
    let word : command_word one ≡ command_word other = cc in
    let kind : AreOfOneKind one other = one_kind one other word in
    let form : form_for one ≡ form_for other = one_form kind in
    let moved : IsPlain (form_for other) second.rest first.items =
    subst (λ (form : Form). IsPlain form second.rest first.items) form
    (subst (λ (words : WordList). IsPlain (form_for one) words first.items) rest first.plain) in
    let items : second.items ≡ first.items = one_list (form_for other) second.rest second.items first.items second.plain moved in
    one_meant first.items kind first.meant (subst (λ (items : List Item). IsMeant items other) items second.meant)

-- ---- what may be granted

number_within : (usual most : ℕ) (values : WordList) (number : ℕ) → usual ≤ most → IsOption usual most values number
    → number ≤ most
number_within usual most [] number fits is = omega (arith, fits, is)
number_within usual most (text ∷ []) number fits is = is.limit
number_within usual most (text ∷ again ∷ texts) number fits is = absurd is

pub nodes_within : (words : WordList) (planning : Planning) → IsPlainForm words (Plan planning) → planning.nodes ≤ MAX_BRANCHINGS
nodes_within words planning form = number_within USUAL_NODES_OF_PLAN MAX_BRANCHINGS _ planning.nodes (omega arith) form.meant.nodes

pub rounds_within : (words : WordList) (planning : Planning) → IsPlainForm words (Plan planning) → planning.rounds ≤ MAX_ROUNDS
rounds_within words planning form = number_within USUAL_ROUNDS_OF_PLAN MAX_ROUNDS _ planning.rounds (omega arith) form.meant.rounds

pub replan_change_within : (words : WordList) (replanning : Replanning) → IsPlainForm words (Replan replanning) → replanning.change ≤ MAX_CHANGE
replan_change_within words replanning form = number_within USUAL_CHANGE MAX_CHANGE _ replanning.change (omega arith) form.meant.change

pub replan_nodes_within : (words : WordList) (replanning : Replanning) → IsPlainForm words (Replan replanning)
    → replanning.nodes ≤ MAX_BRANCHINGS
replan_nodes_within words replanning form =
    number_within USUAL_NODES_OF_REPLAN MAX_BRANCHINGS _ replanning.nodes (omega arith) form.meant.nodes

pub replan_rounds_within : (words : WordList) (replanning : Replanning) → IsPlainForm words (Replan replanning)
    → replanning.rounds ≤ MAX_ROUNDS
replan_rounds_within words replanning form =
    number_within USUAL_ROUNDS_OF_REPLAN MAX_ROUNDS _ replanning.rounds (omega arith) form.meant.rounds

pub week_days_within : (words : WordList) (planning : WeekPlanning) → IsPlainForm words (Week planning)
    → planning.days ≤ MAX_DAYS_OF_WEEK
week_days_within words planning form = form.meant.days.limit

pub week_nodes_within : (words : WordList) (planning : WeekPlanning) → IsPlainForm words (Week planning)
    → planning.nodes ≤ MAX_BRANCHINGS
week_nodes_within words planning form =
    number_within USUAL_NODES_OF_WEEK MAX_BRANCHINGS _ planning.nodes (omega arith) form.meant.nodes

pub week_rounds_within : (words : WordList) (planning : WeekPlanning) → IsPlainForm words (Week planning)
    → planning.rounds ≤ MAX_ROUNDS
week_rounds_within words planning form =
    number_within USUAL_ROUNDS_OF_WEEK MAX_ROUNDS _ planning.rounds (omega arith) form.meant.rounds

pub fleet_nodes_within : (words : WordList) (planning : FleetPlanning) → IsPlainForm words (Fleet planning)
    → planning.nodes ≤ MAX_NODES_OF_FLEET
fleet_nodes_within words planning form =
    number_within USUAL_NODES_OF_FLEET MAX_NODES_OF_FLEET _ planning.nodes (omega arith) form.meant.nodes

pub fleet_rounds_within : (words : WordList) (planning : FleetPlanning) → IsPlainForm words (Fleet planning)
    → planning.rounds ≤ MAX_ROUNDS
fleet_rounds_within words planning form =
    number_within USUAL_ROUNDS_OF_FLEET MAX_ROUNDS _ planning.rounds (omega arith) form.meant.rounds

pub fleet_splits_within : (words : WordList) (planning : FleetPlanning) → IsPlainForm words (Fleet planning)
    → planning.splits ≤ MAX_SPLITS_OF_FLEET
fleet_splits_within words planning form =
    number_within USUAL_SPLITS_OF_FLEET MAX_SPLITS_OF_FLEET _ planning.splits (omega arith) form.meant.splits
