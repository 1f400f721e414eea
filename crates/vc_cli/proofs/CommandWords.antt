-- The words of the commands, which of them sign nothing, and what a yes of a run says.
use Rattle.std.proofs.Common.{◌≡◌, ◌<◌, ◌≤◌, ℕ, List, [], ◌∷◌, length, get_or, Bool, IsTrue, true, false, nat_eq, refl, sym, ap, ◌∙◌, inl, inr, codes, arith}
use Rattle.std.specs.Str.{bytes_eq}
use Rattle.std.proofs.lemmas.Slice.Eq.{bytes_eq-Decides}
use Rattle.std.proofs.lemmas.Bool.{true≢false}
use Rattle.std.proofs.lemmas.Bool.Decides.{nat_tests}
use Rattle.vc_io.specs.Bytes.{SinkMeaning, SourceMeaning}
use Rattle.key_device.specs.Devices.{Acceptance, DeviceMeaning}
use Rattle.vc_session.specs.declared.reply.Reply.{Reply}
use Rattle.vc_session.specs.declared.reply.Reply.TheVariants as reply
use Rattle.vc_session.specs.Answers.{AnswersRequest, HasSoundReply, HasSoundYes, IssueAnswers, Signs, StatementsAnswers, VerifyAnswers}
use Rattle.vc_cli.specs.declared.status.Status.{Status}
use Rattle.vc_cli.specs.declared.status.Status.TheVariants as status
use Rattle.vc_cli.specs.Commands.{Answers, IsCommand, IsIssueCommand, IsStatements, IsVerifyCommand}
use Rattle.vc_cli.specs.Delivery.{Delivers, status_of}

-- ---- one word

-- a list of one element
pub one_element : (xs : List (List ℕ)) (x : List ℕ) → 1 ≤ length xs → length xs < 2 → x ≡ get_or xs 0 x → xs ≡ x ∷ []
one_element [] x some few is = absurd (omega arith)
one_element (y ∷ []) x some few is = ap (λ z. z ∷ []) (sym is)
one_element (y ∷ z ∷ zs) x some few is = absurd (omega arith)

-- the words are one word, which a test compared with a text
pub is_one_word : (words : List (List ℕ)) (word seen text : List ℕ) (r : Bool) → 1 ≤ length words → length words < 2 → word ≡ get_or words 0 word → seen ≡ word → r ≡ bytes_eq seen text → (IsTrue r → words ≡ text ∷ []) × (words ≡ text ∷ [] → IsTrue r)
is_one_word words word seen text r some few is same said =
    let one : words ≡ word ∷ [] = one_element words word some few is in
    let decides = bytes_eq-Decides seen text in (
      (λ t. let equal : seen ≡ text = decides.0 (sym said ∙ t) in cc),
      (λ e. let equal : seen ≡ text = cc in said ∙ decides.1 equal),
    )

-- ---- words that begin with two letters are two words

first_letter : List (List ℕ) → ℕ
first_letter ((c ∷ cs) ∷ ws) = c
first_letter other = 0

apart : (ws us : List (List ℕ)) → (nat_eq (first_letter ws) (first_letter us)) ≡ false → ws ≡ us → ⊥
apart ws us differ e = true≢false (sym (same (first_letter us)) ∙ ap (λ (x : List (List ℕ)). nat_eq (first_letter x) (first_letter us)) (sym e) ∙ differ)
  where
    same : (n : ℕ) → nat_eq n n ≡ true
    same n = grind (arith, nat_tests)

-- the word `statements` is not `verify`
pub statements_not_verify : (words : List (List ℕ)) → IsStatements words → IsVerifyCommand words → ⊥
unfolding first_letter
statements_not_verify words a b = apart (codes "statements" ∷ []) (codes "verify" ∷ []) refl (sym a ∙ b)

-- the word `issue` is not `verify`
pub issue_not_verify : (words : List (List ℕ)) → IsIssueCommand words → IsVerifyCommand words → ⊥
unfolding first_letter
issue_not_verify words a b = apart (codes "issue" ∷ []) (codes "verify" ∷ []) refl (sym a ∙ b)

-- ---- no word of the three

-- words that are none of the three are no command
pub no_command : (words : List (List ℕ)) → (IsStatements words → ⊥) → (IsIssueCommand words → ⊥) → (IsVerifyCommand words → ⊥) → IsCommand words → ⊥
no_command words a b c h = elim h [
  | inl s ↦ a s
  | inr o ↦ elim o [
    | inl i ↦ b i
    | inr v ↦ c v
  ]
]

-- ---- what a test of the words told

-- what a test tells holds where it says yes
pub is_told : (A : Type 0) (said : Bool) → said ≡ true → (IsTrue said → A) × (A → IsTrue said) → A
is_told A said is test = test.0 is

-- what a test tells does not hold where it says no
pub not_told : (A : Type 0) (said : Bool) → said ≡ false → (IsTrue said → A) × (A → IsTrue said) → A → ⊥
not_told A said is test a = true≢false (sym (test.1 a) ∙ is)

-- ---- the answer to each command

module _ (words : List (List ℕ)) (source source_after : SourceMeaning) (before after : DeviceMeaning) (r : Reply) where
  pub answers_statements : IsStatements words → AnswersRequest StatementsAnswers source source_after r → Answers words source source_after before after r
  answers_statements w h = inl (w, h)

  pub answers_issue : IsIssueCommand words → AnswersRequest (IssueAnswers before after) source source_after r → Answers words source source_after before after r
  answers_issue w h = inr (inl (w, h))

  pub answers_verify : IsVerifyCommand words → AnswersRequest (VerifyAnswers before after) source source_after r → Answers words source source_after before after r
  answers_verify w h = inr (inr (inl (w, h)))

-- the usage line answers words that are no command
pub answers_usage : (words : List (List ℕ)) (source source_after : SourceMeaning) (before after : DeviceMeaning) → (IsStatements words → ⊥) → (IsIssueCommand words → ⊥) → (IsVerifyCommand words → ⊥) → Answers words source source_after before after reply.Usage
answers_usage words source source_after before after a b c = inr (inr (inr (no_command words a b c, refl)))

-- ---- what a device has signed

-- the command `statements` signs nothing
pub statements_sign : (source source_after : SourceMeaning) (device : DeviceMeaning) (r : Reply) → AnswersRequest StatementsAnswers source source_after r → Signs source device device r
statements_sign source source_after device (reply.Document line) h = absurd h.2.2
statements_sign source source_after device reply.Memory h = inl refl
statements_sign source source_after device other h = refl

-- the command `verify` signs nothing
pub verify_signs : (source source_after : SourceMeaning) (before after : DeviceMeaning) (r : Reply) → AnswersRequest (VerifyAnswers before after) source source_after r → after.log ≡ before.log → Signs source before after r
verify_signs source source_after before after (reply.Document line) h same = absurd h.2.2
verify_signs source source_after before after reply.Memory h same = inl same
verify_signs source source_after before after other h same = same

-- ---- a yes

module _ (source source_after : SourceMeaning) (accepts : Acceptance) (before after : DeviceMeaning) (words : List (List ℕ)) (is : IsVerifyCommand words) where
  -- verifying replies neither statements nor a document
  only_verifies : (r : Reply) → Answers words source source_after before after r → AnswersRequest (VerifyAnswers before after) source source_after r
  only_verifies r a = elim a [
    | inl p ↦ absurd (statements_not_verify words p.0 is)
    | inr b ↦ elim b [
      | inl p ↦ absurd (issue_not_verify words p.0 is)
      | inr d ↦ elim d [
        | inl p ↦ p.1
        | inr p ↦ absurd (p.0 (inr (inr is)))
      ]
    ]
  ]

  yes_or_no : (r : Reply) → Answers words source source_after before after r → status_of r ≡ status.Done → HasSoundReply source accepts r → HasSoundYes source accepts
  yes_or_no (reply.Yes line) a done s = s
  yes_or_no (reply.Statements text) a done s = absurd (only_verifies (reply.Statements text) a).2.2
  yes_or_no (reply.Document line) a done s = absurd (only_verifies (reply.Document line) a).2.2
  yes_or_no reply.Usage a done s = absurd cc
  yes_or_no reply.TooLong a done s = absurd cc
  yes_or_no reply.NotJson a done s = absurd cc
  yes_or_no reply.TreeTooDeep a done s = absurd cc
  yes_or_no (reply.NotWhole line) a done s = absurd cc
  yes_or_no reply.NotBuilt a done s = absurd cc
  yes_or_no reply.NoStatements a done s = absurd cc
  yes_or_no (reply.UnknownMethod line) a done s = absurd cc
  yes_or_no (reply.NoKey line) a done s = absurd cc
  yes_or_no (reply.ProofValue line) a done s = absurd cc
  yes_or_no (reply.No line) a done s = absurd cc
  yes_or_no reply.DeviceFault a done s = absurd cc
  yes_or_no reply.ReadFault a done s = absurd cc
  yes_or_no reply.Memory a done s = absurd cc

  -- the status of a run that ended well is that of its reply
  pub sound_yes : (sink sink_after : SinkMeaning) (r : Reply) (result : Status) → Answers words source source_after before after r → Delivers r result sink sink_after → HasSoundReply source accepts r → result ≡ status.Done → HasSoundYes source accepts
  sound_yes sink sink_after r result a d s done = elim d [
    | inl w ↦ yes_or_no r a (sym w.0 ∙ done) s
    | inr f ↦ absurd (let e : status.WriteFault ≡ status.Done = sym f.0 ∙ done in cc)
  ]

pub ruleset word_steps = (statements_not_verify, issue_not_verify, no_command)
