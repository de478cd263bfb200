-- Runs that are joined, event by event.
use Rattle.std.proofs.Common.{ℕ, zero, suc, ◌≡◌, ◌+◌, ◌*◌, ◌%◌, ◌<◌, Bool, true, false, List, [], ◌∷◌, ◌++◌, length, take, drop, get_or, refl, sym, ◌∙◌, ap, subst, append_assoc, append-nil, add_assoc, add-zero, zero-add, length-append, arith}
use Rattle.std.specs.Prelude.{Option, Result, Ok, Err, OnErr}
use Rattle.std.specs.Io.KnownBytes.{Appends}
use Rattle.std.proofs.KnownBytes.{Appends-nil, Appends-trans}
use Rattle.std.proofs.Math.Seq.{take-append-add}
use Rattle.std.proofs.lemmas.List.{take-append-drop, take_more, take_all}
use Rattle.streams.specs.Bytes.{AppendsFront}
use Rattle.instruct.specs.declared.Profile.{Profile}
use Rattle.peripherals.specs.declared.Event.{Event}
use Rattle.peripherals.specs.declared.Event.TheVariants.{Step}
use Rattle.peripherals.specs.declared.Seen.{Seen}
use Rattle.peripherals.specs.declared.Seen.TheVariants as seen
use Rattle.peripherals.specs.Devices.{WorldState, word_at_pc}
use Rattle.peripherals.specs.Events.{Happens}
use Rattle.peripherals.specs.EventOutcomes.{puts_out, seen_of}
use Rattle.machine_commands.specs.declared.follow.End.{End}
use Rattle.machine_commands.specs.declared.follow.End.TheVariants.{Unsupported}
use Rattle.machine_commands.specs.declared.follow.RunOutcome.{RunOutcome}
use Rattle.machine_commands.specs.Course.{Ran, RanIntoLine, RanToOutput, event_of_round}
use Rattle.machine_commands.specs.Follows.{Follows, Ended, Stuck, Stopped, Went, IsTraceOfSome, IsTraceUpToOutput, end_of, goes_on, counted, rounds}
use Rattle.processor.specs.Machine.{State}
use Rattle.machine_commands.specs.Trace.{line_of, trace_of, traced}
use Rattle.command_parts.specs.Writes.{FrontOf, Writes}

-- Some events, and then others: whatever follows from x follows after these events from w.
abbrev pub Leads : Profile → Bool → List Event → WorldState → List ℕ → ℕ → WorldState → Type 0
Leads p ends es w lines n x =
    (rest : List Event) (more : List ℕ) (k : ℕ) (end : End) (y : WorldState) →
    Follows p ends rest x more k end y → Follows p ends (es ++ rest) w (lines ++ more) (n + k) end y

-- The run came so far: these events led from w to x, and their trace was appended where one is asked for.
pub record Came (p : Profile) (ends trace : Bool) (es : List Event) (w : WorldState) (n : ℕ) (x : WorldState) (old new : Option (List ℕ)) : Type 0 where
  pub lines : List ℕ
  pub leads : Leads p ends es w lines n x
  pub wrote : Appends old new (traced trace lines)

untraced : (trace : Bool) (old : Option (List ℕ)) → Appends old old (traced trace [])
untraced true old = Appends-nil old
untraced false old = Appends-nil old

pub joined : (trace : Bool) (old mid new : Option (List ℕ)) (first second : List ℕ) → Appends old mid (traced trace first) → Appends mid new (traced trace second) → Appends old new (traced trace (first ++ second))
joined true old mid new first second p q = Appends-trans old mid new first second p q
joined false old mid new first second p q = Appends-trans old mid new [] [] p q

pub came_none : (p : Profile) (ends trace : Bool) (w : WorldState) (old : Option (List ℕ)) → Came p ends trace [] w 0 w old old
came_none p ends trace w old = record {
  lines = [];
  leads = λ rest more k end y follows. rw (zero-add k) follows;
  wrote = untraced trace old;
}

pub leads_one : (p : Profile) (ends : Bool) (e : Event) (w m : WorldState) (what : Seen) → seen_of p w e ≡ what → goes_on ends what ≡ true → Happens p w e m → Leads p ends (e ∷ []) w (trace_of p w e m) (counted what) m
leads_one p ends e w m what is goes happens = λ rest more k end y follows. Went e rest w m y what more k end is goes happens follows

pub leads_both : (p : Profile) (ends : Bool) (es fs : List Event) (w m x : WorldState) (a b : List ℕ) (n k : ℕ) → Leads p ends es w a n m → Leads p ends fs m b k x → Leads p ends (es ++ fs) w (a ++ b) (n + k) x
leads_both p ends es fs w m x a b n k first second = λ rest more j end y follows.
    let done : Follows p ends (es ++ (fs ++ rest)) w (a ++ (b ++ more)) (n + (k + j)) end y = first (fs ++ rest) (b ++ more) (k + j) end y (second rest more j end y follows) in
    rw (append_assoc es fs rest, append_assoc a b more, add_assoc n k j) done

-- one event more
more_events : (es : List Event) (i : ℕ) (e : Event) → i < length es → e ≡ get_or es i Step → take (i + 1) es ≡ take i es ++ e ∷ []
more_events es i e within is = take_more es i Step within ∙ ap (λ (x : Event). take i es ++ x ∷ []) (sym is)

pub came_more : (p : Profile) (ends trace : Bool) (es : List Event) (i : ℕ) (e : Event) (w x y : WorldState) (n : ℕ) (what : Seen) (old mid new : Option (List ℕ)) →
    Came p ends trace (take i es) w n x old mid → i < length es → e ≡ get_or es i Step → seen_of p x e ≡ what → goes_on ends what ≡ true → Happens p x e y →
    Appends mid new (traced trace (trace_of p x e y)) → Came p ends trace (take (i + 1) es) w (n + counted what) y old new
came_more p ends trace es i e w x y n what old mid new came within is sees goes happens wrote = record {
  lines = came.lines ++ trace_of p x e y;
  leads = rw (more_events es i e within is) (leads_both p ends (take i es) (e ∷ []) w x y came.lines (trace_of p x e y) n (counted what) came.leads (leads_one p ends e x y what sees goes happens));
  wrote = joined trace old mid new came.lines (trace_of p x e y) came.wrote wrote;
}

-- the run as it came so far
pub came_here : (p : Profile) (ends trace : Bool) (es : List Event) (w x : WorldState) (n : ℕ) (old new : Option (List ℕ)) → (came : Came p ends trace es w n x old new) → Follows p ends es w came.lines n (end_of x) x
came_here p ends trace es w x n old new came =
    let done : Follows p ends (es ++ []) w (came.lines ++ []) (n + 0) (end_of x) x = came.leads [] [] 0 (end_of x) x (Ended x) in
    rw (append-nil es, append-nil came.lines, add-zero n) at done

-- there is nothing more
pub came_all : (p : Profile) (ends trace : Bool) (es : List Event) (w x : WorldState) (outcome : RunOutcome) (old new : Option (List ℕ)) →
    Came p ends trace es w outcome.steps x old new → outcome.end ≡ end_of x → Ran p ends trace es w outcome x old new
came_all p ends trace es w x outcome old new came ends_so = record {
  lines = came.lines;
  follows = rw ends_so (came_here p ends trace es w x outcome.steps old new came);
  wrote = came.wrote;
}

-- these events and this one, and others that don't happen
ended : (p : Profile) (ends : Bool) (es : List Event) (i : ℕ) (e : Event) (w x y : WorldState) (a b : List ℕ) (n k : ℕ) (end : End) → Leads p ends (take i es) w a n x →
    i < length es → e ≡ get_or es i Step → ((rest : List Event) → Follows p ends (e ∷ rest) x b k end y) → Follows p ends es w (a ++ b) (n + k) end y
ended p ends es i e w x y a b n k end leads within is last =
    let done : Follows p ends (take i es ++ (e ∷ drop (i + 1) es)) w (a ++ b) (n + k) end y = leads (e ∷ drop (i + 1) es) b k end y (last (drop (i + 1) es)) in
    let front : (take i es ++ e ∷ []) ++ drop (i + 1) es ≡ es = rw (← more_events es i e within is) (take-append-drop (i + 1) es) in
    let whole : take i es ++ (e ∷ drop (i + 1) es) ≡ es = sym (append_assoc (take i es) (e ∷ []) (drop (i + 1) es)) ∙ front in
    subst (λ (l : List Event). Follows p ends l w (a ++ b) (n + k) end y) whole done

pub came_to_halt : (p : Profile) (ends trace : Bool) (es : List Event) (i : ℕ) (e : Event) (w x y : WorldState) (n : ℕ) (outcome : RunOutcome) (old mid new : Option (List ℕ)) →
    Came p ends trace (take i es) w n x old mid → i < length es → e ≡ get_or es i Step → ends ≡ true → seen_of p x e ≡ seen.Halted → Happens p x e y →
    Appends mid new (traced trace (trace_of p x e y)) → outcome.steps ≡ n + 1 → outcome.end ≡ end_of y → Ran p ends trace es w outcome y old new
came_to_halt p ends trace es i e w x y n outcome old mid new came within is stops sees happens wrote steps ends_so = record {
  lines = came.lines ++ trace_of p x e y;
  follows = rw (steps, ends_so) (ended p ends es i e w x y came.lines (trace_of p x e y) n 1 (end_of y) came.leads within is (λ rest. Stopped e rest x y stops sees happens));
  wrote = joined trace old mid new came.lines (trace_of p x e y) came.wrote wrote;
}

-- an unsupported word has no line
pub no_line : (p : Profile) (e : Event) (x y : WorldState) (word : ℕ) → seen_of p x e ≡ seen.Unsupported word → trace_of p x e y ≡ []
no_line p e x y word sees = rw sees refl

pub came_to_stuck : (p : Profile) (ends trace : Bool) (es : List Event) (i : ℕ) (e : Event) (w x y : WorldState) (n word : ℕ) (outcome : RunOutcome) (old mid new : Option (List ℕ)) →
    Came p ends trace (take i es) w n x old mid → i < length es → e ≡ get_or es i Step → seen_of p x e ≡ seen.Unsupported word → Happens p x e y →
    Appends mid new (traced trace (trace_of p x e y)) → outcome.steps ≡ n → outcome.end ≡ Unsupported y.state.pc → Ran p ends trace es w outcome y old new
came_to_stuck p ends trace es i e w x y n word outcome old mid new came within is sees happens wrote steps ends_so =
    let none : Appends mid new (traced trace []) = rw (no_line p e x y word sees) at wrote in
    let follows : Follows p ends es w (came.lines ++ []) (n + 0) (Unsupported y.state.pc) y = ended p ends es i e w x y came.lines [] n 0 (Unsupported y.state.pc) came.leads within is (λ rest. Stuck e rest x y word sees happens) in
    record {
      lines = came.lines ++ [];
      follows = rw (steps, ends_so) (rw (add-zero n) at follows);
      wrote = joined trace old mid new came.lines [] came.wrote none;
    }

-- the run of one event
pub record OneFollows (p : Profile) (ends : Bool) (e : Event) (x y : WorldState) : Type 0 where
  pub steps : ℕ
  pub end : End
  pub follows : Follows p ends (e ∷ []) x (trace_of p x e y) steps end y

went_one : (p : Profile) (ends : Bool) (e : Event) (x y : WorldState) (what : Seen) → seen_of p x e ≡ what → goes_on ends what ≡ true → Happens p x e y → OneFollows p ends e x y
went_one p ends e x y what sees goes happens =
    let done : Follows p ends (e ∷ []) x (trace_of p x e y ++ []) (counted what + 0) (end_of y) y = Went e [] x y y what [] 0 (end_of y) sees goes happens (Ended y) in
    record { steps = counted what + 0; end = end_of y; follows = rw (append-nil (trace_of p x e y)) at done }

halted_one : (p : Profile) (ends : Bool) (e : Event) (x y : WorldState) → seen_of p x e ≡ seen.Halted → Happens p x e y → OneFollows p ends e x y
halted_one p true e x y sees happens = record { steps = 1; end = end_of y; follows = Stopped e [] x y refl sees happens }
halted_one p false e x y sees happens = went_one p false e x y seen.Halted sees refl happens

pub one_by : (p : Profile) (ends : Bool) (e : Event) (x y : WorldState) (what : Seen) → seen_of p x e ≡ what → Happens p x e y → OneFollows p ends e x y
one_by p ends e x y seen.Ran sees happens = went_one p ends e x y seen.Ran sees refl happens
one_by p ends e x y seen.Changed sees happens = went_one p ends e x y seen.Changed sees refl happens
one_by p ends e x y seen.NotEnabled sees happens = went_one p ends e x y seen.NotEnabled sees refl happens
one_by p ends e x y seen.Halted sees happens = halted_one p ends e x y sees happens
one_by p ends e x y (seen.Unsupported word) sees happens = record {
  steps = 0;
  end = Unsupported y.state.pc;
  follows = rw (no_line p e x y word sees) (Stuck e [] x y word sees happens);
}

-- a whole piece, and a front of the next
pub front_after : (a b c : Option (List ℕ)) (first second : List ℕ) → Appends a b first → AppendsFront b c second → AppendsFront a c (first ++ second)
front_after a b c first second whole front = record {
  count = length first + front.count;
  within = let e = length-append first second in let f = front.within in omega (arith, e, f);
  out = rw (take-append-add first second front.count) (Appends-trans a b c first (take front.count second) whole front.out);
}

-- the write of a line failed, and a part of it or nothing went out
pub came_into_line : (p : Profile) (ends trace : Bool) (es : List Event) (i : ℕ) (e : Event) (w x y : WorldState) (n : ℕ) (old mid new : Option (List ℕ)) →
    Came p ends trace (take i es) w n x old mid → i < length es → e ≡ get_or es i Step → trace ≡ true → Happens p x e y →
    AppendsFront mid new (trace_of p x e y) → RanIntoLine p ends es w y old new
came_into_line p ends trace es i e w x y n old mid new came within is asked happens front =
    let one = one_by p ends e x y (seen_of p x e) refl happens in
    let follows : Follows p ends (take i es ++ e ∷ []) w (came.lines ++ trace_of p x e y) (n + one.steps) one.end y = came.leads (e ∷ []) (trace_of p x e y) one.steps one.end y one.follows in
    let wrote : Appends old mid came.lines = rw asked at came.wrote in
    record {
      count = i;
      within = within;
      before = x;
      lines = came.lines;
      steps_before = n;
      end_before = end_of x;
      led = came_here p ends trace (take i es) w x n old mid came;
      line = trace_of p x e y;
      line_is = ap (λ (e : Event). trace_of p x e y) is;
      steps = n + one.steps;
      end = one.end;
      follows = rw (more_events es i e within is) follows;
      written = front.count;
      part = front.within;
      wrote = Appends-trans old mid new came.lines (take front.count (trace_of p x e y)) wrote front.out;
    }

-- no more memory for what an event puts out: those before it led here, and their lines are there
pub came_to_refusal : (p : Profile) (ends trace : Bool) (es : List Event) (i : ℕ) (e : Event) (w x y : WorldState) (n : ℕ) (old mid new : Option (List ℕ)) →
    Came p ends trace (take i es) w n x old mid → i < length es → e ≡ get_or es i Step → puts_out x e ≡ true → y ≡ x → new ≡ mid → RanToOutput p ends trace es w y old new
came_to_refusal p ends trace es i e w x y n old mid new came within here puts same kept =
    let stops : RanToOutput p ends trace es w x old mid = record {
      count = i;
      within = within;
      lines = came.lines;
      steps = n;
      end = end_of x;
      follows = came_here p ends trace (take i es) w x n old mid came;
      puts = rw here at puts;
      wrote = came.wrote;
    } in
    rw (same, kept) stops

-- where a trace is asked for
pub output_traced : (p : Profile) (ends trace : Bool) (es : List Event) (w x : WorldState) (old new : Option (List ℕ)) →
    RanToOutput p ends trace es w x old new → trace ≡ true → Writes (IsTraceUpToOutput p ends es w) old new
output_traced p ends trace es w x old new ran asked =
    let wrote : Appends old new ran.lines = rw asked at ran.wrote in
    record {
      text = ran.lines;
      is = record { count = ran.count; steps = ran.steps; end = ran.end; final = x; follows = ran.follows; puts = λ lt. ran.puts };
      written = wrote;
    }

-- what went out then is a front of the trace of some first events
pub into_line_front : (p : Profile) (ends : Bool) (es : List Event) (w x : WorldState) (old new : Option (List ℕ)) → RanIntoLine p ends es w x old new → FrontOf (IsTraceOfSome p ends es w) old new
into_line_front p ends es w x old new into = record {
  text = into.lines ++ into.line;
  is = record { count = into.count + 1; steps = into.steps; end = into.end; final = x; follows = into.follows };
  front = record {
    count = length into.lines + into.written;
    within = let e = length-append into.lines into.line in let part = into.part in omega (arith, e, part);
    out = rw (take-append-add into.lines into.line into.written) into.wrote;
  };
}

-- all events
pub ran_whole : (p : Profile) (ends trace : Bool) (es : List Event) (w x : WorldState) (outcome : RunOutcome) (old new : Option (List ℕ)) →
    Ran p ends trace es w outcome x old new → trace ≡ true → Writes (IsTraceUpToOutput p ends es w) old new
ran_whole p ends trace es w x outcome old new ran asked =
    let wrote : Appends old new ran.lines = rw asked at ran.wrote in
    record {
      text = ran.lines;
      is = record {
        count = length es;
        steps = outcome.steps;
        end = outcome.end;
        final = x;
        follows = rw (take_all (length es) es (omega arith)) ran.follows;
        puts = λ lt. absurd (omega (arith, lt));
      };
      written = wrote;
    }

-- what holds anyway holds of an answer that is a fault
pub of_fault : {T E X : Type 0} (r : Result T E) → X → OnErr r X
of_fault (Ok v) x = tt
of_fault (Err e) x = x

-- rounds by index
rounds_more : (n : ℕ) → length (rounds (suc n)) ≡ length (rounds n) + 3
unfolding rounds
rounds_more n = omega arith

pub rounds_length : (n : ℕ) → length (rounds n) ≡ n * 3
unfolding rounds
rounds_length zero = refl
rounds_length (suc n) = let more = rounds_more n in let rest = rounds_length n in omega (arith, more, rest)

pub rounds_at : (n i : ℕ) → i < length (rounds n) → get_or (rounds n) i Step ≡ event_of_round (i % 3)
unfolding rounds
rounds_at zero i h = absurd (omega arith)
rounds_at (suc n) zero h = refl
rounds_at (suc n) (suc zero) h = refl
rounds_at (suc n) (suc (suc zero)) h = refl
rounds_at (suc n) (suc (suc (suc i))) h =
    let more = rounds_more n in
    let within : i < length (rounds n) = omega (arith, more) in
    let same : suc (suc (suc i)) % 3 ≡ i % 3 = omega arith in
    rw same (rounds_at n i within)

-- the line of what was seen is that of the event
pub same_line : (p q : Profile) (w : WorldState) (e : Event) (x : WorldState) (what : Seen) (at word : ℕ) (s : State) →
    what ≡ seen_of p w e → at ≡ w.state.pc → word ≡ word_at_pc w → s ≡ x.state → q ≡ p → line_of q what at word s ≡ trace_of p w e x
same_line p q w e x what at word s is there reads after same = rw (is, there, reads, after, same) refl

-- the word of an instruction
pub word_there : (w : WorldState) (s : State) (at word : ℕ) → s ≡ w.state → at ≡ w.state.pc → word ≡ s.memory at → word ≡ word_at_pc w
word_there w s at word same there is = is ∙ rw (same, there) refl

-- a line that is written where a trace is asked for
pub where_traced : (trace : Bool) (old new : Option (List ℕ)) (line : List ℕ) → trace ≡ true → Appends old new line → Appends old new (traced trace line)
where_traced trace old new line asked wrote = rw asked wrote
