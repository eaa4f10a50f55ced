mod MakerLaws
