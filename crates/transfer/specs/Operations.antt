-- The outcomes of operate and device words, and of every instruction.
use Rattle.std.specs.Prelude.{ℕ, ◌==◌, Bool, true, false, not, ◌&&◌, ◌||◌, if◌then◌else◌, List, [], ◌++◌, nat_lt, filter}
use Rattle.instruct.specs.Bits.{has_bit}
use Rattle.instruct.specs.Operates.{operate1_of, skips_of, is_halt, MqOperate, Mql, Mqa, Swp, Cam, ClaMqa, ClaSwp}
use Rattle.instruct.specs.Instructions.{Meaning, And, Tad, Isz, Dca, Jms, Jmp, Group1, Group2, Group3, Device, Undefined, DeviceAction, Skips, Ors, Clears, Takes, Leaves}
use Rattle.wordset.specs.Words.{plus, Words, all_words, one, some_below, has_some, ors, or_any, images, only}
use Rattle.processor.specs.Machine.{next_pc}
use Rattle.domain.specs.Locations.{Ac, same}
use Rattle.domain.specs.Chains.{Operates, Chain, all_longer}
use Rattle.domain.specs.Facts.{Relation, Fact, Place, Rules, OfEquations, OfSums}
use Rattle.domain.specs.Adding.{with_name, is_kept, is_void}
use Rattle.domain.specs.Narrowing.{narrowed}
use Rattle.domain.specs.Moves.{free_of, taking}
use Rattle.transfer.specs.References.{stepped, targets}
use Rattle.transfer.specs.Additions.{turned}
use Rattle.transfer.specs.Stores.{with_begun}
use Rattle.transfer.specs.Outcomes.{Successor, Goes, given, ac_of, alive, goes, with_link, with_mq, anded, tad, isz_case, dca_case, jmp, call}

-- The accumulator after a word of group 1.
unfoldable pub ac_after : ℕ → ℕ → ℕ → ℕ
ac_after w ac link = (operate1_of w (ac, link)).0

-- The link after a word of group 1.
unfoldable pub link_after : ℕ → ℕ → ℕ → ℕ
link_after w ac link = (operate1_of w (ac, link)).1

-- A rotation or BSW, by which the bits of AC change their places.
abbrev pub moves_bits : ℕ → Bool
moves_bits w = has_bit 3 w || (has_bit 2 w || has_bit 1 w)

-- The relations after a word of group 1: with CLA, a rotation or BSW those of AC go. Else CMA and IAC change them.
abbrev pub relations_operated : Rules → ℕ → List Relation → List Relation
relations_operated rules w relations =
    if has_bit 7 w || moves_bits w then free_of (λ n. same n Ac) relations
    else filter (λ r. is_kept rules r.sum r.set) (turned w relations)

-- The chains after it: with CLA they go. Else the word is a step more, and if it is a rotation or BSW, chains begin before.
abbrev pub chains_operated : Rules → ℕ → Fact → List Chain
chains_operated rules w f =
    if has_bit 7 w then [] else all_longer (Operates w) (if moves_bits w then with_begun rules f else f.chains)

-- The fact after it, except for the words of AC and the link.
abbrev pub operated : Rules → ℕ → Fact → Fact
operated rules w f =
    record f { relations = relations_operated rules w f.relations; chains = chains_operated rules w f }

-- The words that AC may hold after a word of group 1 where the link is l then.
abbrev pub images_under : ℕ → ℕ → Words → Words → Words
images_under w l ac links v =
    some_below 2 (λ k. links k && some_below 4096 (λ x. ac x && ((ac_after w x k == v) && (link_after w x k == l))))

-- The fact after a word of group 1 where the link is l then.
abbrev pub operated_under : ℕ → Fact → ℕ → Fact
operated_under w f l =
    with_link (one l) (with_name Ac (images_under w l (f.set Ac) f.link) (operated OfSums w f))

-- Group 1: by the rules of sums an outcome for each link; by those of equations one with the images of all words and links.
abbrev pub all_operated1 : Rules → Place → ℕ → ℕ → Fact → List Successor
all_operated1 OfSums pl at w f =
    goes pl all_words f all_words (one (plus at 1)) (operated_under w f 0) ++
    goes pl all_words f all_words (one (plus at 1)) (operated_under w f 1)
all_operated1 OfEquations pl at w f =
    goes pl all_words f all_words (one (plus at 1))
    (with_link (images (link_after w) (ac_of pl f) f.link)
    (with_name Ac (images (ac_after w) (ac_of pl f) f.link) (operated OfEquations w f)))

-- Group 2: the words that skip, or that do not, where the link is l.
abbrev pub part2 : Place → ℕ → Fact → ℕ → Bool → Words
part2 pl w f l skip a = ac_of pl f a && (if skips_of w a l then skip else not skip)

-- The fact of those that come to a skip, or to none, under one link, before AC is changed: by the rules of sums it is narrowed
-- where CLA or OSR changes AC, so that what the test tells of other names is known before it is forgotten.
abbrev pub tested : Rules → Place → ℕ → Fact → Words → ℕ → Fact
tested OfSums pl w f part l =
    if has_bit 7 w || has_bit 2 w then narrowed pl.image (with_link (one l) (with_name Ac part f))
    else with_link (one l) (with_name Ac part f)
tested OfEquations pl w f part l = with_link (one l) (with_name Ac part f)

-- Then CLA, then OSR, by which any bits may come in.
abbrev pub cleared2 : ℕ → Fact → Fact
cleared2 w f =
    if has_bit 2 w then taking Ac (or_any 4095 (if has_bit 7 w then one 0 else f.set Ac)) f
    else (if has_bit 7 w then taking Ac (one 0) f else f)

-- Some state may have come to this test: by the rules of sums the fact is not void.
abbrev pub may_be : Rules → Fact → Bool
may_be OfSums f = not (is_void f)
may_be OfEquations f = true

-- The words that skip, or those that do not, under one link; then what the word makes of them.
abbrev pub operated2 : Place → ℕ → ℕ → Fact → ℕ → Bool → List Successor
operated2 pl at w f l skip =
    let before : Fact = tested pl.rules pl w f (part2 pl w f l skip) l in
    given (f.link l && (has_some (part2 pl w f l skip) && (may_be pl.rules before && alive pl all_words f all_words (cleared2 w before))))
    (Goes (one (next_pc at skip)) (cleared2 w before))

-- Each link by itself, with and without a skip.
abbrev pub all_operated2 : Place → ℕ → ℕ → Fact → List Successor
all_operated2 pl at w f =
    operated2 pl at w f 0 true ++
    (operated2 pl at w f 0 false ++ (operated2 pl at w f 1 true ++ operated2 pl at w f 1 false))

-- Group 3 moves words between the accumulator and MQ; nothing else that is known of AC stays. `ac` are its words before.
abbrev pub operated3 : MqOperate → Words → Fact → Fact
operated3 Mql ac f = with_mq ac (taking Ac (one 0) f)
operated3 Mqa ac f = taking Ac (ors ac f.mq) f
operated3 Swp ac f = with_mq ac (taking Ac f.mq f)
operated3 Cam ac f = with_mq (one 0) (taking Ac (one 0) f)
operated3 ClaMqa ac f = taking Ac f.mq f
operated3 ClaSwp ac f = with_mq (one 0) (taking Ac f.mq f)

-- Device words: a flag may be set or not, and a byte may be any.
abbrev pub device_outcomes : Place → ℕ → Fact → DeviceAction → List Successor
device_outcomes pl at f Skips =
    goes pl all_words f all_words (one (plus at 1)) f ++ goes pl all_words f all_words (one (plus at 2)) f
device_outcomes pl at f Ors =
    goes pl all_words f all_words (one (plus at 1)) (taking Ac (or_any 255 (ac_of pl f)) f)
device_outcomes pl at f Clears = goes pl all_words f all_words (one (plus at 1)) (taking Ac (one 0) f)
device_outcomes pl at f Takes = goes pl all_words f all_words (one (plus at 1)) (taking Ac (λ v. nat_lt v 256) f)
device_outcomes pl at f Leaves = goes pl all_words f all_words (one (plus at 1)) f

-- The outcomes of an instruction at an address. A HLT at a stop has none.
abbrev pub outcomes_of : Place → Fact → ℕ → Meaning → List Successor
outcomes_of pl f at (And i c) = anded pl at (stepped pl i c f) (targets pl i c f)
outcomes_of pl f at (Tad i c) = tad pl i c at (stepped pl i c f) (targets pl i c f)
outcomes_of pl f at (Isz i c) = isz_case pl at (stepped pl i c f) (targets pl i c f) (only (targets pl i c f))
outcomes_of pl f at (Dca i c) = dca_case pl at (stepped pl i c f) (targets pl i c f) (only (targets pl i c f))
outcomes_of pl f at (Jms i c) = call pl (stepped pl i c f) (targets pl i c f)
outcomes_of pl f at (Jmp i c) = jmp pl i c (stepped pl i c f) (targets pl i c f)
outcomes_of pl f at (Group1 w) = all_operated1 pl.rules pl at w f
outcomes_of pl f at (Group2 w) = if is_halt w && pl.declaration.stop at then [] else all_operated2 pl at w f
outcomes_of pl f at (Group3 o) = goes pl all_words f all_words (one (plus at 1)) (operated3 o (ac_of pl f) f)
outcomes_of pl f at (Device action) = device_outcomes pl at f action
outcomes_of pl f at Undefined = []
