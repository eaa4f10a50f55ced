use Rattle.std.proofs.Common.{◌≡◌, ◌+◌, ◌<◌, ap, arith, sym, ◌∙◌, ◌++◌, ◌∷◌, [], subst, length}
use Rattle.std.proofs.lemmas.List.{length_push}
use Rattle.map_expand.specs.Going.{homes_of}
use Rattle.map_expand.specs.Homes.{AreSiblings, home_at, name_at}
use Rattle.map_expand.specs.Making.{after, content, made_of, path_of, whole_map}
use Rattle.map_expand.specs.declared.work.Walk.{Walk}
use Rattle.map_expand.specs.declared.work.Work.TheVariants as works
use Rattle.map_expand.specs.Telling.{IsTold}
use Rattle.map_expand.proofs.AskedForLaws.{asked_node}
use Rattle.map_expand.proofs.GoingLaws.{enter_all, entered_less, full_over, path_entered, some_map}
use Rattle.map_expand.proofs.ReadyLaws.{ready_entered}
use Rattle.map_expand.proofs.TellingLaws.{asked_first}
use Rattle.map_expand.proofs.expansion.Expansion.enter.Goals as goal

pub returns-in-Err-clause-made : goal.returns-in-Err-clause-made
returns-in-Err-clause-made c = λ world root is placed few fits.
    let homes = homes_of c.args.maps.now in
    let left = c.args.self.now.left.items in
    let path = path_of homes left ++ name_at homes c.args.map ∷ [] in
    full_over world homes left c.in-Err.stop c.args.parent (whole_map world path c.args.level root) c.args.self.now.nodes
    c.args.self.now.faults c.in-Err.ensures.full (some_map world path c.args.level root fits)

pub returns-clause-less : goal.returns-clause-less
returns-clause-less c =
    let walk : Walk = record c.content-content.result { parent = c.in-Ok.place } in
    let first = c.in_ok-push.ensures.items ∙ ap (λ v. v.items ++ works.Leave c.args.map ∷ []) c.in-Ok.ensures.left in
    let fits = c.content-content.type_inv in
    entered_less c.args.self.now.nodes c.put.new.self.nodes _ c.args.self.now.left.items
    c.push.new.self.items c.push-2.new.self.items c.args.map walk c.in-Ok.ensures.room c.in-Ok.ensures.nodes first
    c.in_ok-push-2.ensures.items (grind arith)

pub returns-clause-path : goal.returns-clause-path
returns-clause-path c =
    let walk : Walk = record c.content-content.result { parent = c.in-Ok.place } in
    let first = c.in_ok-push.ensures.items ∙ ap (λ v. v.items ++ works.Leave c.args.map ∷ []) c.in-Ok.ensures.left in
    ap (λ h. path_of h c.push-2.new.self.items) c.set_around.ensures.homes
    ∙ path_entered (homes_of c.args.maps.now) c.args.self.now.left.items c.push-2.new.self.items c.args.map walk
    (c.in_ok-push-2.ensures.items ∙ ap (λ l. l ++ works.Walk walk ∷ []) first)

pub returns-clause-made : goal.returns-clause-made
returns-clause-made c = λ world root is placed few fits.
    let walk : Walk = record c.content-content.result { parent = c.in-Ok.place } in
    let first = c.in_ok-push.ensures.items ∙ ap (λ v. v.items ++ works.Leave c.args.map ∷ []) c.in-Ok.ensures.left in
    let now = c.push-2.new.self.items in
    let walked : walk ≡ record (content c.in-Some.walk c.in-Some.walk.end) { parent = length c.args.self.now.nodes } =
    ap (λ (w : Walk). record w { parent = c.in-Ok.place }) c.content-content.ensures
    ∙ ap (λ n. record (content c.in-Some.walk c.in-Some.walk.end) { parent = n }) c.in-Ok.ensures.place in
    ap (λ h. after world h [] now (made_of c.put.new.self.nodes c.put.new.self.faults)) c.set_around.ensures.homes
    ∙ enter_all world (homes_of c.args.maps.now) c.args.self.now.left.items now c.args.map c.args.parent c.args.level
    c.in-Some.walk walk c.in-Some-first.name.now c.in-Some-first.root.now root c.args.self.now.nodes c.put.new.self.nodes
    c.args.self.now.faults c.put.new.self.faults c.in-Some.ensures walked c.in-Some-first.ensures is placed
    (c.in_ok-push-2.ensures.items ∙ ap (λ l. l ++ works.Walk walk ∷ []) first)
    c.in-Ok.ensures.nodes c.in-Ok.ensures.faults fits

pub returns-clause-ready : goal.returns-clause-ready
returns-clause-ready c = λ told ready free few.
    let walk : Walk = record c.content-content.result { parent = c.in-Ok.place } in
    let first = c.in_ok-push.ensures.items ∙ ap (λ v. v.items ++ works.Leave c.args.map ∷ []) c.in-Ok.ensures.left in
    let root = c.in-Some.ensures in
    let homes = homes_of c.args.maps.now in
    let content_is = c.content-content.ensures in
    let map_is : walk.map ≡ c.args.map = ap (λ (w : Walk). w.map) content_is ∙ root.map in
    let place_is : walk.place ≡ (home_at homes c.args.map).root + 1 =
    ap (λ (w : Walk). w.place) content_is ∙ ap (λ p. p + 1) root.place in
    let end_is : walk.end ≡ c.in-Some.walk.end = ap (λ (w : Walk). w.end) content_is in
    let level_is : walk.level ≡ c.args.level = ap (λ (w : Walk). w.level) content_is ∙ root.level in
    let many = ap (λ l. length l) c.in-Ok.ensures.nodes ∙ length_push c.args.self.now.nodes _ in
    ready_entered told c.args.maps.now c.set_around.new.self c.args.self.now
    (record { nodes = c.put.new.self.nodes; faults = c.put.new.self.faults; left = c.push-2.new.self }) c.args.map walk ready
    c.requires.within free c.set_around.ensures.known c.set_around.ensures.homes c.set_around.ensures.flags
    (omega (arith, many))
    (c.in_ok-push-2.ensures.items ∙ ap (λ l. l ++ works.Walk walk ∷ []) first)
    (record {
      on = record {
        map = subst (λ n. n < length homes) (sym map_is) c.requires.within;
        siblings = subst (λ m. AreSiblings (home_at homes m) walk.place walk.end) (sym map_is)
            (subst (λ p. AreSiblings (home_at homes c.args.map) p walk.end) (sym place_is)
            (subst (λ e. AreSiblings (home_at homes c.args.map) ((home_at homes c.args.map).root + 1) e) (sym end_is)
            root.inside));
      };
      level = omega (arith, many, level_is, few);
    })
    (asked_node told c.args.self.now.nodes c.put.new.self.nodes _ c.in-Ok.ensures.nodes ready.asked
    (asked_first told (home_at homes c.in-Some.walk.map) c.in-Some.walk c.in-Some-first.name.now c.in-Some-first.root.now
    (subst (λ m. IsTold told (home_at homes m)) (sym root.map) (ready.maps_fit.tells c.args.map c.requires.within))
    c.in-Some-first.ensures))
