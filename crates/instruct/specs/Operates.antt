-- How the operate words change the accumulator, the link and MQ, on numbers.
use Rattle.std.specs.Prelude.{ℕ, ◌+◌, ◌-◌, ◌*◌, ◌/◌, ◌%◌, Bool, not, ◌&&◌, ◌||◌, ◌==◌, nat_le, if◌then◌else◌, Option, Some, None, bit_or}
use Rattle.word12.specs.Words.{left_word, left_link, right_word, right_link}
use Rattle.instruct.specs.Bits.{has_bit}

-- Group 1 works on the pair of accumulator and link, in four stages. First CLA (0200) and CLL (0100).
abbrev pub cleared : ℕ → ℕ × ℕ → ℕ × ℕ
cleared word s = ((if has_bit 7 word then 0 else s.0), (if has_bit 6 word then 0 else s.1))

-- Second CMA (0040) and CML (0020).
abbrev pub complemented : ℕ → ℕ × ℕ → ℕ × ℕ
complemented word s = ((if has_bit 5 word then 4095 - s.0 else s.0), (if has_bit 4 word then 1 - s.1 else s.1))

-- Third IAC (0001): the accumulator is incremented, and going from 7777 to 0000 complements the
-- link.
abbrev pub counted : ℕ → ℕ × ℕ → ℕ × ℕ
counted word s =
    if has_bit 0 word then ((s.0 + 1) % 4096, (if s.0 == 4095 then 1 - s.1 else s.1)) else s

-- One rotate to the left: each bit of the accumulator moves up by one place, the highest goes into the link, and the
-- old link becomes the lowest.
abbrev pub left : ℕ × ℕ → ℕ × ℕ
left s = (left_word s.0 s.1, left_link s.0)

-- One rotate to the right: each bit of the accumulator moves down by one place, the lowest goes into the link, and the
-- old link becomes the highest.
abbrev pub right : ℕ × ℕ → ℕ × ℕ
right s = (right_word s.0 s.1, right_link s.0)

-- The two halves of six bits change places.
abbrev pub exchanged : ℕ → ℕ
exchanged ac = ac % 64 * 64 + ac / 64

-- Fourth RAR (0010) or RAL (0004), done twice with 0002; 0002 without a rotate exchanges the halves (BSW of the 8/E).
abbrev pub rotated : ℕ → ℕ × ℕ → ℕ × ℕ
rotated word s =
    if has_bit 3 word then (if has_bit 1 word then right (right s) else right s)
    else (if has_bit 2 word then (if has_bit 1 word then left (left s) else left s)
    else (if has_bit 1 word then (exchanged s.0, s.1) else s))

-- The accumulator and the link after a word of group 1: the four stages are to clear, to complement, to
-- increment and to rotate, in this order.
abbrev pub operate1_of : ℕ → ℕ × ℕ → ℕ × ℕ
operate1_of word s = rotated word (counted word (complemented word (cleared word s)))

-- Group 2 first tests the old accumulator and link: SMA (0100), SZA (0040) and SNL (0020).
abbrev pub any_test_holds : ℕ → ℕ → ℕ → Bool
any_test_holds word ac link =
    (has_bit 6 word && nat_le 2048 ac) || ((has_bit 5 word && (ac == 0)) || (has_bit 4 word && (link == 1)))

-- A word of group 2 skips if a chosen test holds or, with 0010, if none does. So 0010 without a test always skips.
abbrev pub skips_of : ℕ → ℕ → ℕ → Bool
skips_of word ac link = if has_bit 3 word then not (any_test_holds word ac link) else any_test_holds word ac link

-- Then CLA (0200), then OSR (0004), which ors the switches into the accumulator.
abbrev pub operate2_of : ℕ → ℕ → ℕ → ℕ
operate2_of word ac switches =
    let kept = if has_bit 7 word then 0 else ac in
    if has_bit 2 word then bit_or kept switches else kept

-- A word of group 2 halts the machine after it with HLT (0002).
abbrev pub is_halt : ℕ → Bool
is_halt word = has_bit 1 word

-- A word of group 2 reads the switches with OSR (0004).
abbrev pub reads_switches_of : ℕ → Bool
reads_switches_of word = has_bit 2 word

-- The operations of group 3, all of the 8/E.
pub data MqOperate : Type 0 where
  Mql : MqOperate
  Mqa : MqOperate
  Swp : MqOperate
  Cam : MqOperate
  ClaMqa : MqOperate
  ClaSwp : MqOperate

-- The operation of group 3 that a word is: 7421 is MQL, 7501 MQA, 7521 SWP, 7621 CAM, 7701 CLA MQA and 7721 CLA SWP.
-- Any other word is none of them.
abbrev pub mq_operate_of : ℕ → Option MqOperate
mq_operate_of word =
    if word == 0o7421 then Some Mql
    else (if word == 0o7501 then Some Mqa
    else (if word == 0o7521 then Some Swp
    else (if word == 0o7621 then Some Cam
    else (if word == 0o7701 then Some ClaMqa
    else (if word == 0o7721 then Some ClaSwp
    else None)))))

-- The pair of accumulator and MQ after each operation of group 3.
abbrev pub mq_operate : MqOperate → ℕ × ℕ → ℕ × ℕ
mq_operate Mql s = (0, s.0)
mq_operate Mqa s = (bit_or s.0 s.1, s.1)
mq_operate Swp s = (s.1, s.0)
mq_operate Cam s = (0, 0)
mq_operate ClaMqa s = (s.1, s.1)
mq_operate ClaSwp s = (s.1, 0)

-- The pair of accumulator and MQ after an operation of group 3; without an operation both stay as they are.
abbrev pub mq_operate_if : Option MqOperate → ℕ × ℕ → ℕ × ℕ
mq_operate_if (Some operate) s = mq_operate operate s
mq_operate_if None s = s

-- The pair of accumulator and MQ after a word of group 3; a word that is not one of the six leaves both as they
-- are.
abbrev pub operate3_of : ℕ → ℕ × ℕ → ℕ × ℕ
operate3_of word s = mq_operate_if (mq_operate_of word) s
