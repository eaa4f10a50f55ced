-- The generator's script: its numbers, how many requests it has, and some of its bodies line by line.
use Rattle.std.specs.Fmt.{digits}
use Rattle.std.specs.Prelude.{◌≡◌, ◌%◌, ◌==◌, Bool, true, false, [], ◌∷◌, codes, count_by, drop, length, take}
use Rattle.std.proofs.Common.{refl}
use Rattle.dita_doc.specs.Request.{Request, Build}
use Rattle.doc_gen.specs.Project.{builds, drawn, excluding, key_meta, keydef, ditavalref, paragraph, project_steps, puts, suffix_meta, topic, topic_body, value_drawn}
use Rattle.doc_gen.specs.Short.{attribute_text, begun, ended, text}
use Rattle.run_spec.specs.EndsTrial.{trial_steps}
use Rattle.script_text.specs.Printed.{step_text}
use Rattle.script_text.specs.Script.{Step}
use Rattle.faithful_examples.proofs.Shown.{lines}

first_drawn : drawn 7 1 ≡ 9098160460397411210
first_drawn = refl

first_value : value_drawn 7 1 ≡ 1059165278
first_value = refl

third_value : value_drawn 7 3 ≡ 1946856753
third_value = refl

-- nine requests more than topics
its_requests : length (project_steps 7 40) ≡ 49
unfolding digits
its_requests = refl

-- three of them are builds
abbrev is_build : Request → Bool
is_build (Build root val) = true
is_build request = false

its_builds : count_by (λ (step : Step). is_build step.request) (project_steps 7 40) ≡ 3
unfolding digits
its_builds = refl

-- a trial asks as much, all in one session
in_a_trial : length (trial_steps 7 40) ≡ 49
unfolding digits
in_a_trial = refl

of_session_one : count_by (λ (step : Step). step.session == 1) (trial_steps 7 40) ≡ 49
unfolding digits
of_session_one = refl

its_excluding : step_text (puts 1 (codes "win.ditaval") (excluding (codes "platform") (codes "lin")))
    ≡ lines ("1 put win.ditaval" ∷ "(val" ∷ "(prop" ∷ "Aaction exclude" ∷ "Aatt platform" ∷ "Aval lin" ∷ ")prop"
    ∷ ")val"
    ∷ "." ∷ [])
unfolding digits excluding attribute_text begun ended text
its_excluding = refl

its_key : keydef 2 ≡ lines ("(keydef" ∷ "Aclass + map/topicref mapgroup-d/keydef " ∷ "Akeys k2"
    ∷ "Aprocessing-role resource-only" ∷ "(topicmeta" ∷ "Aclass - map/topicmeta " ∷ "(keyword"
    ∷ "Aclass - topic/keyword " ∷ "-Key 2" ∷ ")keyword" ∷ ")topicmeta" ∷ ")keydef" ∷ [])
unfolding digits keydef key_meta attribute_text begun ended text
its_key = refl

its_branch : ditavalref (codes "win") ≡ lines ("(ditavalref" ∷ "Aclass + map/topicref ditavalref-d/ditavalref "
    ∷ "Ahref win.ditaval" ∷ "(ditavalmeta" ∷ "Aclass + map/topicmeta ditavalref-d/ditavalmeta " ∷ "(dvrResourceSuffix"
    ∷ "Aclass + topic/data ditavalref-d/dvrResourceSuffix " ∷ "--win" ∷ ")dvrResourceSuffix" ∷ ")ditavalmeta"
    ∷ ")ditavalref" ∷ [])
unfolding ditavalref suffix_meta attribute_text begun ended text
its_branch = refl

-- the first topic of two, by its value: the number of its text is the value's last three digits, its key is one of
-- three, and its content reference names one of the two topics
its_topic : topic 2 1 1059165278 278 ≡ lines ("(topic" ∷ "Aclass - topic/topic " ∷ "Aid t1" ∷ "(title"
    ∷ "Aclass - topic/title " ∷ "-Topic 1" ∷ ")title" ∷ "(body" ∷ "Aclass - topic/body "
    ∷ "(p" ∷ "Aclass - topic/p " ∷ "Aid s" ∷ "-Text 278" ∷ ")p"
    ∷ "(p" ∷ "Aclass - topic/p " ∷ "(ph" ∷ "Aclass - topic/ph " ∷ "Akeyref k3" ∷ ")ph" ∷ ")p"
    ∷ "(p" ∷ "Aclass - topic/p " ∷ "Aaudience internal" ∷ "-I" ∷ ")p"
    ∷ "(p" ∷ "Aclass - topic/p " ∷ "Aplatform win" ∷ "-W" ∷ ")p"
    ∷ "(p" ∷ "Aclass - topic/p " ∷ "Aplatform lin" ∷ "-L" ∷ ")p"
    ∷ "(p" ∷ "Aclass - topic/p " ∷ "Aconref t1.dita#t1/s" ∷ ")p" ∷ ")body" ∷ ")topic" ∷ [])
unfolding digits topic topic_body paragraph attribute_text begun ended text
its_topic = refl

-- with two topics the first session has seven requests, the last of them its build; the second session puts the second
-- topic, whose choice is the third draw
its_second : take 2 (drop 7 (project_steps 7 2))
    ≡ puts 2 (codes "t2.dita") (topic 2 2 2052263231 (value_drawn 7 4 % 1000)) ∷ builds 2 ∷ []
unfolding digits
its_second = refl

its_build : step_text (builds 3) ≡ lines ("3 build book.ditamap val.ditaval" ∷ [])
unfolding digits
its_build = refl
